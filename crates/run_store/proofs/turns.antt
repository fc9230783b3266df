pub mod LeftOver
pub mod LongNext
pub mod Turns
