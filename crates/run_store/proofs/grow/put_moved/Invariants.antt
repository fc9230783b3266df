use Rattle.run_store.specs.grow.Column.{Room, Small}
use Rattle.archive_bytes.specs.Bytes.{be, several}
use Prim.Native.Nat.{◌≤◌, ◌+◌, ◌-◌}
use lib.Seq.{sets}
use lib.ListN.{length, drop}
use mathlib.Core.Path.{◌≡◌}
use Rattle.run_store.proofs.grow.put_moved.Given as goal

abbrev pub invariant-loop-i : goal.invariant-loop-i
invariant-loop-i l =
    (l.i ≤ l.n) × Room (length l.bytes) l.p l.width (l.n - l.i) × Small (several l.width (λ b. be 8 b l.skip) (l.n - l.i) (drop l.p l.bytes))
    × (sets l.initial.out l.at (several l.width (λ b. l.add + be 8 b l.skip) l.n (drop l.base l.bytes))
    ≡ sets l.out (l.at + l.i) (several l.width (λ b. l.add + be 8 b l.skip) (l.n - l.i) (drop l.p l.bytes)))
