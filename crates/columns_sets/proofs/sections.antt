pub mod ListWrites
pub mod SectionWrites
