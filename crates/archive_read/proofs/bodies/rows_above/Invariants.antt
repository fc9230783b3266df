use mathlib.Core.Path.{◌≡◌}
use mathlib.Core.List.{map}
use Prim.Native.Nat.{◌≤◌, ◌+◌, ◌-◌, ◌*◌}
use lib.ListN.{drop}
use Rattle.archive.specs.Bytes.{several}
use Rattle.lists.specs.Order.{rising, rises_above}
use Rattle.archive.specs.Parse.{root_at}
use Rattle.archive_read.proofs.bodies.rows_above.Given as goal

abbrev pub invariant-loop-i : goal.invariant-loop-i
invariant-loop-i l =
    (l.i ≤ l.n) × (rising (map (λ t. t.row) (several 16 root_at l.n (drop 4 l.b))) ≡ rises_above l.last (map (λ t. t.row) (several 16 root_at (l.n - l.i) (drop (4 + l.i * 16) l.b))))
