pub mod Numbers
pub mod Cells
pub mod Twos
pub mod Several
pub mod Listed
