pub mod SpanWrites
pub mod SetWrites
pub mod StartWrites
pub mod WholeSets
