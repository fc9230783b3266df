pub mod SpanTurns
pub mod GranuleTables
pub mod SpanOrder
