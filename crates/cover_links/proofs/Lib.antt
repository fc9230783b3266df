pub mod Elements
pub mod Written
pub mod Carried
pub mod Asked
pub mod Meant
