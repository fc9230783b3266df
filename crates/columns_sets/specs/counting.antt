pub mod GivenEdges
pub mod Slots
