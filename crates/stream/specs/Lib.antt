pub mod Place
pub mod Stream
pub mod Cutting
