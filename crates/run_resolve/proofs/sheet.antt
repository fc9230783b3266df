pub mod KeptColumns
pub mod KeptViews
pub mod Asking
pub mod KeptRecords
pub mod MovedRecords
pub mod Renewing
