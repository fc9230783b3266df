use Rattle.std.specs.Prelude.{Err, Ok, Result}
use mathlib.Core.Path.{◌≡◌}
use Prim.Native.Nat.{ℕ}
use Rattle.columns.specs.Refusal.{number_of}
use Rattle.columns.specs.declared.refusal.Refusal.{Refusal}
use Rattle.archive_read.specs.declared.files.Totals.{Totals}
use Rattle.ffi_archive.specs.Records.{sums_of}
use Rattle.ffi_archive.proofs.archives.SumsFromResultTotalsRefusal.from.Goals as goal

-- the sums, field by field

summed : (s : Result Totals Refusal) (t : Totals) → s ≡ Ok t
    → record {
      refusal = 0;
      files = t.files;
      events = t.events;
      roots = t.roots;
      unresolved = t.unresolved;
      ranges = t.ranges;
      links = t.links;
      forward = t.forward;
      reverse = t.reverse;
      inbound = t.inbound;
      references = t.references;
    } ≡ sums_of s
unfolding sums_of
summed s t e = rw e

-- the number of the refusal, and no sums

refused : (s : Result Totals Refusal) (r : Refusal) {n : ℕ} → s ≡ Err r → n ≡ number_of r
    → record { refusal = n; files = 0; events = 0; roots = 0; unresolved = 0; ranges = 0; links = 0; forward = 0; reverse = 0; inbound = 0; references = 0 } ≡ sums_of s
unfolding sums_of
refused s r e f = rw (e, f)

pub returns-in-Ok : goal.returns-in-Ok
returns-in-Ok c = search summed

pub returns-in-Err : goal.returns-in-Err
returns-in-Err c = search refused
