pub mod Along
pub mod OneSet
pub mod OneFile
pub mod OverGroups
pub mod BySheet
pub mod OverRows
pub mod WholeText
pub mod Answered
