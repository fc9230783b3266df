pub mod ThreeSets
