pub mod LabelTurns
