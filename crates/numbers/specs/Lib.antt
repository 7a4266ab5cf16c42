pub mod Num
pub mod Fields
