pub mod SlotTables
pub mod ParentTurns
pub mod FileOrder
