pub mod Limited
pub mod RuleGroups
pub mod Sets
pub mod KeptEdges
pub mod Later
pub mod Laid
pub mod WholeBuild
pub mod built
