use mathlib.Core.Path.{◌≡◌}
use Prim.Native.Nat.{◌≤◌, ◌+◌, ◌-◌, ◌*◌}
use lib.ListN.{drop}
use Rattle.archive.specs.Bytes.{several}
use Rattle.lists.specs.Lists.{all}
use Rattle.archive.specs.Parse.{range_at}
use Rattle.run_rules.specs.parts.Back.{in_order}
use Rattle.run_rules.proofs.parts.covers.in_order.Given as goal

abbrev pub invariant-loop-i : goal.invariant-loop-i
invariant-loop-i l =
    (l.i ≤ l.n) × (l.p ≡ l.q + l.i * 12) × (all in_order (several 12 range_at l.n (drop l.q l.b)) ≡ all in_order (several 12 range_at (l.n - l.i) (drop l.p l.b)))
