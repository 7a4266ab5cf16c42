pub mod Tests
pub mod Count
pub mod Instances
pub mod Reach
pub mod High
pub mod First
pub mod Same
pub mod Beginnings
