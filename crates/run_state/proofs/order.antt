pub mod Turns
pub mod TidySheets
