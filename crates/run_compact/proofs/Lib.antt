pub mod KeepTurns
pub mod RecordTurns
