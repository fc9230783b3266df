pub mod Stored
pub mod Narrow
pub mod Front
pub mod Lengths
pub mod Files
