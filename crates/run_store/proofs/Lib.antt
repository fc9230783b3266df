pub mod Together
pub mod fits
pub mod joined
