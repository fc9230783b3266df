pub mod Loans
pub mod Four
pub mod Taken
pub mod Freed
pub mod Sorting
pub mod Asking
pub mod Meaning
pub mod Answered
