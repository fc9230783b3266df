pub mod Judged
pub mod Ended
pub mod ReadBack
