pub mod LooksBack
pub mod Fitted
