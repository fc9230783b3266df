pub mod Anyone
pub mod Verdicts
pub mod Rooms
