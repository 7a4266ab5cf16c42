pub mod Laws
pub mod Walk
pub mod Blank
pub mod Round
pub mod Unique
pub mod Kept
pub mod Mark
pub mod Saved
