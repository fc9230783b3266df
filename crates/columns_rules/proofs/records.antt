pub mod FileNumbers
pub mod RecordParts
pub mod LabelOrder
pub mod RecordOrder
