pub mod PartOrder
pub mod Regrouped
pub mod FileTurns
