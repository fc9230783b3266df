use Rattle.ffi.proofs.Told.{told}
use Rattle.ffi_archive.specs.Records.{wrote_of}
use Rattle.ffi_archive.proofs.archives.ridgeoven_write_edges.Goals as goal

pub returns-clause-value : goal.returns-clause-value
returns-clause-value c = search (told wrote_of)
