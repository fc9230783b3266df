pub mod Columns
pub mod slots
