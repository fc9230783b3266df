use mathlib.Core.Path.{◌≡◌}
use mathlib.Core.List.{[]}
use Prim.Native.Nat.{◌≤◌}
use lib.Seq.{slice}
use Rattle.columns.specs.Building.{parent_rules}
use Rattle.columns.specs.Answers.{ruling}
use Rattle.columns_rules.proofs.slots.parent_rules.Given as goal

abbrev pub invariant-loop-j : goal.invariant-loop-j
invariant-loop-j l =
    (l.from ≤ l.j) × (l.j ≤ l.to) × (ruling (parent_rules l.event [] (slice l.from l.to l.targets)) ≡ ruling (parent_rules l.event (slice l.from l.j l.targets) (slice l.j l.to l.targets)))
