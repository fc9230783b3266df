pub mod Grouped
pub mod Encoded
pub mod Answered
pub mod Lent
pub mod built
