use Rattle.run_store.specs.grow.Column.{Room, bit}
use Rattle.archive_bytes.specs.Bytes.{several}
use lib.Dec.{eqb}
use Prim.Native.Nat.{◌≤◌, ◌+◌, ◌-◌}
use lib.Seq.{sets}
use lib.ListN.{length, get_or, drop}
use mathlib.Core.Path.{◌≡◌}
use Rattle.run_store.proofs.grow.put_flags.Given as goal

abbrev pub invariant-loop-i : goal.invariant-loop-i
invariant-loop-i l =
    (l.i ≤ l.n) × Room (length l.bytes) l.p l.width (l.n - l.i)
    × (sets l.initial.out l.at (several l.width (λ l. bit (eqb (get_or l 0 0) 1)) l.n (drop l.base l.bytes))
    ≡ sets l.out (l.at + l.i) (several l.width (λ l. bit (eqb (get_or l 0 0) 1)) (l.n - l.i) (drop l.p l.bytes)))
