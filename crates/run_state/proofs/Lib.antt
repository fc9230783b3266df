pub mod ColumnTurns
pub mod Verdicts
