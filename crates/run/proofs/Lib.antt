pub mod Views
pub mod InTurn
pub mod OverHeld
pub mod Calls
