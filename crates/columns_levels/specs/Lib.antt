pub mod frontier
pub mod rounds
pub mod Stored
