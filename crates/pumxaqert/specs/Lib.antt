pub mod Flat
pub mod Fields
pub mod Streams
