pub mod BuiltLengths
pub mod BuiltLimits
pub mod BuiltSides
pub mod BuiltBack
