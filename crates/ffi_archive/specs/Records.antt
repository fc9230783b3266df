-- What reading an archive and writing records answer by numbers.
use Rattle.std.specs.Prelude.{ℕ, Err, Ok, Result}
use Rattle.columns.specs.Refusal.{number_of}
use Rattle.archive_read.specs.declared.files.Totals.{Totals}
use Rattle.ffi.specs.Numbers.{answer_of}
use Rattle.ffi.specs.declared.answer.Answer.{Answer}
use Rattle.columns.specs.declared.refusal.Refusal.{Refusal}
use Rattle.ffi_archive.specs.declared.archives.Sums.{Sums}

-- the sums over an archive's files, or the refusal of bytes that are no archive
unfoldable pub sums_of : Result Totals Refusal → Sums
sums_of (Ok t) = record {
  refusal = 0;
  files = t.files;
  events = t.events;
  roots = t.roots;
  unresolved = t.unresolved;
  ranges = t.ranges;
  links = t.links;
  forward = t.forward;
  reverse = t.reverse;
  inbound = t.inbound;
  references = t.references;
}
sums_of (Err r) = record {
  refusal = number_of r;
  files = 0;
  events = 0;
  roots = 0;
  unresolved = 0;
  ranges = 0;
  links = 0;
  forward = 0;
  reverse = 0;
  inbound = 0;
  references = 0;
}

-- the place after what was written
abbrev pub wrote_of : Result ℕ Refusal → Answer
wrote_of = answer_of
