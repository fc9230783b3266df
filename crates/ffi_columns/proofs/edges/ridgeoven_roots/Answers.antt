use Rattle.ffi.proofs.Told.{told}
use Rattle.ffi_columns.specs.Numbers.{roots_of}
use Rattle.ffi_columns.proofs.edges.ridgeoven_roots.Goals as goal

pub returns-clause-value : goal.returns-clause-value
returns-clause-value c = search (told roots_of)
