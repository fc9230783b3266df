pub mod Levels
pub mod Closed
