pub mod Room
pub mod OverSources
pub mod Chain
