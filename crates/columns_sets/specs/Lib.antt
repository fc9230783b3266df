pub mod counting
pub mod gather
pub mod sets
pub mod transpose
