pub mod files
pub mod lines
pub mod numbers
