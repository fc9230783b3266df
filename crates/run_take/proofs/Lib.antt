pub mod LastGroup
pub mod Rulings
pub mod Answers
