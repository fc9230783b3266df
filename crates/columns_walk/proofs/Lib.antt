pub mod Starting
pub mod Verdicts
