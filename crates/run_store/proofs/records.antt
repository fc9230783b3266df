pub mod RecordTurns
