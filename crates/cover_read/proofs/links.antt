pub mod Linked
pub mod Answered
