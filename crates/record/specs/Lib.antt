pub mod Layout
pub mod Part
