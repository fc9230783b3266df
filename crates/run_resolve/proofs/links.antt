pub mod Copying
pub mod SortedLinks
pub mod GroupTurns
