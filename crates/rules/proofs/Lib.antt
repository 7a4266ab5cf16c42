pub mod Pins
pub mod Worked
pub mod Rests
pub mod Joins
pub mod Codes
pub mod Seen
