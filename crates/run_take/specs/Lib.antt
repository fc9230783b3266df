pub mod Took
pub mod Known
