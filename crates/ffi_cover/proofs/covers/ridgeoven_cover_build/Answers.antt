use Rattle.ffi.proofs.Told.{told}
use Rattle.ffi_cover.specs.Numbers.{covered_of}
use Rattle.ffi_cover.proofs.covers.ridgeoven_cover_build.Goals as goal

pub returns-clause-value : goal.returns-clause-value
returns-clause-value c = search (told covered_of)
