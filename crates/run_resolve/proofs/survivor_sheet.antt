pub mod SheetParts
pub mod SurvivorLaw
