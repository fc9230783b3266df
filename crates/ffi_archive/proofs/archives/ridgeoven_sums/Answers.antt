use Rattle.ffi.proofs.Told.{told}
use Rattle.ffi_archive.specs.Records.{sums_of}
use Rattle.ffi_archive.proofs.archives.ridgeoven_sums.Goals as goal

pub returns : goal.returns
returns c = search (told sums_of)
