pub mod Out
pub mod Events
