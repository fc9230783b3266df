pub mod AtReferences
