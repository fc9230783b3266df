pub mod NewRecords
