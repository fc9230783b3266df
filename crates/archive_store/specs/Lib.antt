pub mod Lent
pub mod LentFile
pub mod records
pub mod sections
pub mod sizes
