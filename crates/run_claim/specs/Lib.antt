pub mod Traces
pub mod Cleanings
