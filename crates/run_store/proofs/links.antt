pub mod LinkTurns
