pub mod SetTurns
