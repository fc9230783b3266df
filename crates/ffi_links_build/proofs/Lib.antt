pub mod Covering
pub mod Whole
