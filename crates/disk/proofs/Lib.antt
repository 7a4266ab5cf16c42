pub mod Chain
pub mod Marks
pub mod Beside
pub mod Demand
pub mod Writes
pub mod Forth
pub mod Witness
