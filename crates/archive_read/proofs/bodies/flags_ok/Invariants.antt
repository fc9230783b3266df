use mathlib.Core.Path.{◌≡◌}
use Prim.Native.Nat.{◌≤◌, ◌-◌, ◌*◌}
use lib.ListN.{drop, get_or}
use Rattle.archive.specs.Bytes.{several}
use lib.Dec.{leb}
use Rattle.lists.specs.Lists.{all}
use Rattle.archive_read.proofs.bodies.flags_ok.Given as goal

abbrev pub invariant-loop-i : goal.invariant-loop-i
invariant-loop-i l =
    (l.i ≤ l.n) × (all (λ flag. leb flag 1) (several 9 (λ l. get_or l 0 0) l.n l.b) ≡ all (λ flag. leb flag 1) (several 9 (λ l. get_or l 0 0) (l.n - l.i) (drop (l.i * 9) l.b)))
