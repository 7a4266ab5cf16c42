pub mod Wire
pub mod Calls
pub mod Examples
pub mod Reasons
