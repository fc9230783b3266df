pub mod AtHead
pub mod AtSets
pub mod AtTables
pub mod AtCover
