pub mod Parts
pub mod Archive
