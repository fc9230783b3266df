pub mod Links
pub mod Stored
pub mod Extremes
