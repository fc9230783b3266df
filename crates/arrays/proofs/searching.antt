pub mod Looking
pub mod Halving
