use Rattle.ffi.proofs.Told.{told-arm}
use Rattle.ffi_columns.specs.Numbers.{granule_of}
use Rattle.ffi_columns.proofs.edges.granule_of.Goals as goal

pub returns-in-Ok : goal.returns-in-Ok
unfolding granule_of
returns-in-Ok c = cc

pub returns-in-Err : goal.returns-in-Err
unfolding granule_of
returns-in-Err c = search (told-arm granule_of)
