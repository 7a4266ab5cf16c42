pub mod Entry
pub mod Writing
pub mod Replay
pub mod Journal
