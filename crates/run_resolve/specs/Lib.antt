pub mod Outcome
pub mod Map
pub mod links
pub mod parents
pub mod records
pub mod sheet
pub mod survivor_sheet
