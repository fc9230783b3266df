pub mod pairs
pub mod searching
pub mod sorting
pub mod table
