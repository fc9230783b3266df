pub mod Growing
pub mod Counted
pub mod Tables
pub mod Parents
pub mod Slots
pub mod Erased
