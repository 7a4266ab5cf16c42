pub mod Records
pub mod Sought
