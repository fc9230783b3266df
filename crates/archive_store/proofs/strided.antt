pub mod Strides
