-- The invariant: what is kept is what stands in front, and what is kept of the rest.
use Rattle.std.proofs.Common.{◌≡◌, ◌≤◌, ◌++◌, length, take, drop}
use lib.Seq.{slice}
use Rattle.run_compact.specs.Columns.{kept_in}
use Rattle.run_compact.proofs.keep.keep.Given as goal

abbrev pub invariant-loop-i : goal.invariant-loop-i
invariant-loop-i g l =
    (l.n ≤ l.i) × (length l.column ≡ 1024) × (length l.initial.column ≡ 1024)
    × (kept_in l.flags (take (length l.flags) l.initial.column) ≡ take l.n l.column ++ kept_in (drop l.i l.flags) (slice l.i (length l.flags) l.column))
