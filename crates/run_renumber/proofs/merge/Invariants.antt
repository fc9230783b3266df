-- The invariant: what lies below base stands, and the whole list is the one grown so far with what is left of the part.
use mathlib.Core.List.{foldl}
use mathlib.Core.Path.{◌≡◌}
use Prim.Native.Nat.{◌≤◌}
use lib.ListN.{length, take}
use lib.Seq.{slice}
use Rattle.lists.specs.Lists.{add}
use Rattle.run_renumber.proofs.merge.Given as goal

abbrev pub invariant-loop-i : goal.invariant-loop-i
invariant-loop-i l =
    (l.i ≤ l.b) × (l.base ≤ l.n) × (l.n ≤ length l.all) × (length l.all ≡ length l.initial.all) × (take l.base l.all ≡ take l.base l.initial.all)
    × (foldl add (slice l.base l.end l.initial.all) (slice l.a l.b l.initial.all) ≡ foldl add (slice l.base l.n l.all) (slice l.i l.b l.initial.all))
