pub mod Turning
pub mod Preparing
