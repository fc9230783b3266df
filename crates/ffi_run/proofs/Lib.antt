pub mod ByNumbers
