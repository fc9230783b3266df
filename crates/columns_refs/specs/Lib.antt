pub mod References
pub mod Computes
pub mod Resolved
pub mod Lent
