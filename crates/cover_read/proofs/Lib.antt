pub mod Climbing
pub mod Ranged
pub mod Windows
pub mod Readings
