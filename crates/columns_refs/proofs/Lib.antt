pub mod Counted
pub mod Slots
pub mod Notes
pub mod Ruled
pub mod Bounds
pub mod Resolves
