pub mod Rounds
pub mod Closure
