use mathlib.Core.Path.{◌≡◌}
use mathlib.Core.Bool.{true}
use mathlib.Core.List.{map}
use Prim.Native.Nat.{◌≤◌, ◌-◌}
use lib.ListN.{length}
use lib.Seq.{slice, sets}
use Rattle.columns.specs.EdgeSet.{delta_of}
use Rattle.columns_rules.specs.spans.Spanned.{spans_fit}
use Rattle.columns_sets.proofs.sets.write_slot.Given as goal

abbrev pub invariant-loop-j : goal.invariant-loop-j
invariant-loop-j l =
    (l.a ≤ l.j) × (l.j ≤ l.b) × (length l.out ≡ length l.initial.out) × (spans_fit l.event (slice l.j l.b l.targets) ≡ true)
    × (sets l.initial.out (l.a - l.base) (map (delta_of l.event) (slice l.a l.b l.targets)) ≡ sets l.out (l.j - l.base) (map (delta_of l.event) (slice l.j l.b l.targets)))
