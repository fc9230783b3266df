pub mod AtRecords
pub mod AtFiles
