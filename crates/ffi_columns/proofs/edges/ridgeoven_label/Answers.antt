use Rattle.ffi.proofs.Told.{told}
use Rattle.ffi_columns.specs.Numbers.{label_of}
use Rattle.ffi_columns.proofs.edges.ridgeoven_label.Goals as goal

pub returns : goal.returns
returns c = search (told label_of)
