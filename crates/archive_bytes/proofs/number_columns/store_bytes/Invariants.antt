use mathlib.Core.Path.{◌≡◌}
use Prim.Native.Nat.{◌≤◌, ◌+◌}
use lib.ListN.{length, drop}
use lib.Seq.{sets}
use Rattle.archive_bytes.proofs.number_columns.store_bytes.Given as goal

abbrev pub invariant-loop-i : goal.invariant-loop-i
invariant-loop-i l =
    (l.i ≤ length l.s) × (length l.out ≡ length l.initial.out) × (sets l.initial.out l.at l.s ≡ sets l.out (l.at + l.i) (drop l.i l.s))
