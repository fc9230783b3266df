use mathlib.Core.Path.{◌≡◌}
use Prim.Native.Nat.{◌≤◌}
use lib.ListN.{length, drop}
use Rattle.cover.specs.Cover.{sums, sums_fit}
use Rattle.cover_rows.proofs.Columned.{all_fit}
use Rattle.cover_rows.proofs.sums_fit.Given as goal

abbrev pub invariant-loop-i : goal.invariant-loop-i
invariant-loop-i l =
    (l.i ≤ length l.differences) × (l.sum ≤ 4294967295) × (sums_fit l.differences ≡ all_fit (sums l.sum (drop l.i l.differences)))
