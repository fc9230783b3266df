pub mod View
pub mod Valid
pub mod Blank
pub mod ByColumns
pub mod order
