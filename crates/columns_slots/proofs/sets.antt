pub mod Listed
pub mod Turns
pub mod Writes
pub mod Rows
