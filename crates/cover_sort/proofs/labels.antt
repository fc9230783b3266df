pub mod Swapping
pub mod Joining
