pub mod Handing
pub mod level
