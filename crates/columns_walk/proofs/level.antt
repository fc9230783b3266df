pub mod Visited
pub mod Handed
pub mod Verdicts
pub mod Repeated
