pub mod Keeping
pub mod Leveling
pub mod Ordering
pub mod Placing
