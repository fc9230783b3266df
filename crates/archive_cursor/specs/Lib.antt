pub mod Short
pub mod cursor
pub mod number_columns
