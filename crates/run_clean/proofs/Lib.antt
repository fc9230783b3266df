pub mod Zeros
pub mod Gathers
pub mod Chain
