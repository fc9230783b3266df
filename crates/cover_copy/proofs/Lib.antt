pub mod Copied
