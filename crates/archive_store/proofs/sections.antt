pub mod Slots
pub mod Starts
pub mod WholeSet
