use mathlib.Core.Path.{◌≡◌}
use mathlib.Core.List.{map}
use Prim.Native.Nat.{◌≤◌, ◌+◌, ◌-◌, ◌*◌}
use lib.ListN.{drop}
use Rattle.archive.specs.Bytes.{several}
use Rattle.lists.specs.Order.{not_falling, level_above}
use Rattle.archive.specs.Parse.{unresolved_at}
use Rattle.archive_read.proofs.bodies.children_ok.Given as goal

abbrev pub invariant-loop-i : goal.invariant-loop-i
invariant-loop-i l =
    (l.i ≤ l.n) ×
    (not_falling (map (λ u. u.child) (several 13 unresolved_at l.n (drop 4 l.b))) ≡ level_above l.low (map (λ u. u.child) (several 13 unresolved_at (l.n - l.i) (drop (4 + l.i * 13) l.b))))
