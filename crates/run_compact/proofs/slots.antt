pub mod Appending
pub mod SlotTurns
