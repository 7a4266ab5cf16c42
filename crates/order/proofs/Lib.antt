pub mod Judged
pub mod Asked
pub mod Stated
pub mod Marked
pub mod Listed
pub mod Handed
pub mod Unique
