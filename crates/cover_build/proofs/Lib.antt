pub mod Ruled
pub mod Labelled
pub mod Verdict
