pub mod Cleans
pub mod Survived
