pub mod Kept
pub mod Numbers
pub mod labels
pub mod packing
