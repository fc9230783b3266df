pub mod FileSize
