pub mod Place
pub mod Table
pub mod Calls
pub mod Sizes
