pub mod Pins
pub mod Lengths
pub mod Fronts
pub mod Written
pub mod Framed
pub mod Journal
pub mod Answered
pub mod Unique
