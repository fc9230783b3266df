pub mod Bytes
pub mod Reader
pub mod File
pub mod Parse
pub mod Encode
pub mod Fits
pub mod Computes
