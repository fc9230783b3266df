pub mod SlotOrder
pub mod SurvivorColumns
pub mod Answered
pub mod OldNumbers
pub mod Outcomes
