pub mod files
pub mod limits
pub mod parts
