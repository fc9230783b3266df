pub mod Ruled
pub mod seqs
pub mod records
pub mod spans
