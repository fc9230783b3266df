pub mod Limited
pub mod Found
pub mod Asked
pub mod Labels
