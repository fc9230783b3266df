-- The invariant: what lies below base stands, and the new list is the one grown so far with the parents that are left.
use mathlib.Core.List.{foldl}
use mathlib.Core.Path.{◌≡◌}
use Prim.Native.Nat.{◌≤◌, ◌+◌}
use lib.ListN.{length, take}
use lib.Seq.{slice}
use Rattle.columns.specs.Limits.{kinds}
use Rattle.columns.specs.EdgeSet.{cut}
use Rattle.run_renumber.specs.NewLists.{add_parent, new_list}
use Rattle.run_renumber.proofs.new_list.Given as goal

abbrev pub invariant-loop-i : goal.invariant-loop-i
invariant-loop-i l =
    (l.i ≤ l.b) × (l.base ≤ l.n) × (l.n ≤ length l.all) × (length l.all ≡ length l.initial.all) × (take l.base l.all ≡ take l.base l.initial.all)
    × (new_list kinds l.start l.flags l.numbers l.kind (cut (take (l.s + 1) l.offs) (take l.base l.initial.all)) (slice l.a l.b l.parents)
    ≡ foldl (add_parent kinds l.start l.flags l.numbers l.kind (cut (take (l.s + 1) l.offs) (take l.base l.initial.all))) (slice l.base l.n l.all) (slice l.i l.b l.parents))
