pub mod Decimals
pub mod Joined
