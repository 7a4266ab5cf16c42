pub mod Front
pub mod Asked
