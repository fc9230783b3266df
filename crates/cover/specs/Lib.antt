pub mod Chains
pub mod Cover
pub mod Questions
pub mod Computes
pub mod Answers
pub mod Places
