pub mod Stored
pub mod Verdicts
