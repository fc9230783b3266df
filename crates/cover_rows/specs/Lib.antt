pub mod pick
pub mod Links
