pub mod Writes
pub mod ByColumns
