use mathlib.Core.Path.{◌≡◌}
use mathlib.Core.List.{map}
use Prim.Native.Nat.{◌≤◌, ◌+◌, ◌-◌, ◌*◌}
use lib.ListN.{drop}
use Rattle.archive.specs.Bytes.{several}
use Rattle.lists.specs.Order.{rising, rises_above}
use Rattle.archive.specs.Parse.{range_at}
use Rattle.run_rules.proofs.parts.covers.chains_above.Given as goal

abbrev pub invariant-loop-i : goal.invariant-loop-i
invariant-loop-i l =
    (1 ≤ l.i) × (l.i ≤ l.n) × (l.p ≡ l.q + l.i * 12) × (rising (map (λ x. x.chain) (several 12 range_at l.n (drop l.q l.b)))
    ≡ rises_above l.last (map (λ x. x.chain) (several 12 range_at (l.n - l.i) (drop l.p l.b))))
