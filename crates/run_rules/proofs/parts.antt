pub mod HeadOrder
pub mod HeadTests
pub mod RecordTurns
pub mod SetOrder
pub mod CoverTurns
