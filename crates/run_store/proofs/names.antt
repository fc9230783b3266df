pub mod NameTurns
