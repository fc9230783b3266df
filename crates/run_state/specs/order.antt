pub mod Ordered
pub mod Long
