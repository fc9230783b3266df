pub mod Labelling
pub mod Ranging
pub mod Laying
pub mod Adding
pub mod Joining
