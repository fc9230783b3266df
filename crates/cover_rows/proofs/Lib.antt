pub mod Rowed
pub mod Columned
pub mod Fitting
