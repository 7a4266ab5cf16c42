pub mod Sent
pub mod Held
pub mod Calls
pub mod Unique
pub mod Outcomes
