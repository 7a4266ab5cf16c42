pub mod Named
pub mod Rises
pub mod Sweeps
pub mod Closes
pub mod Charts
