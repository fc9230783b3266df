pub mod RowTurns
