pub mod Bytes
pub mod After
pub mod Computes
