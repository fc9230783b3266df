pub mod Numbers
pub mod NewLists
pub mod Reparented
pub mod Answers
pub mod Computes
