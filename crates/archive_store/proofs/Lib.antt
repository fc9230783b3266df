pub mod Chained
pub mod Zipped
pub mod Files
