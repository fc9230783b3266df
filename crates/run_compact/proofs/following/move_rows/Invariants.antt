-- The invariant: the rows that are moved, and those that are left.
use mathlib.Core.Path.{◌≡◌}
use mathlib.Core.List.{◌++◌}
use Prim.Native.Nat.{◌≤◌}
use lib.ListN.{length, take}
use lib.Seq.{slice}
use Rattle.run_compact.specs.Columns.{new_rows}
use Rattle.run_compact.proofs.following.move_rows.Given as goal

abbrev pub invariant-loop-i : goal.invariant-loop-i
invariant-loop-i l =
    (l.i ≤ l.n) × (length l.rows ≡ length l.initial.rows) × (new_rows l.base l.from l.numbers (take l.n l.initial.rows) ≡ take l.i l.rows ++ new_rows l.base l.from l.numbers (slice l.i l.n l.rows))
