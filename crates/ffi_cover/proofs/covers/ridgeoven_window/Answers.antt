use Rattle.ffi.proofs.Told.{told}
use Rattle.ffi_cover.specs.Numbers.{held_of}
use Rattle.ffi_cover.proofs.covers.ridgeoven_window.Goals as goal

pub returns : goal.returns
returns c = search (told held_of)
