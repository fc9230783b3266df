pub mod Slots
pub mod Fresh
pub mod Turns
