use mathlib.Core.Path.{◌≡◌}
use Prim.Native.Nat.{◌≤◌, ◌-◌}
use lib.ListN.{length}
use Rattle.columns.specs.Limits.{kinds}
use Rattle.archive.specs.Parse.{files, parse}
use Rattle.archive_read.specs.Sums.{totals_of, Below, plus}
use Rattle.archive_read.proofs.files.sum_up.Given as goal

abbrev pub invariant-loop-p : goal.invariant-loop-p
invariant-loop-p l =
    Below l.t l.p × (l.p ≤ length l.bytes) × (totals_of (parse kinds l.bytes) ≡ plus l.t (totals_of (files kinds (length l.bytes - l.t.files) l.bytes l.p)))

abbrev pub decreases-loop-p : goal.decreases-loop-p
decreases-loop-p l = length l.bytes - l.p
