pub mod Lists
pub mod Order
pub mod Computes
pub mod Text
