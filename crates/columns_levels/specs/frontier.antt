pub mod Frontier
