use Rattle.run_store.specs.grow.Column.{Room}
use Rattle.archive_bytes.specs.Bytes.{several}
use Prim.Native.Nat.{◌≤◌, ◌+◌, ◌-◌}
use lib.Seq.{sets}
use lib.ListN.{length, drop}
use mathlib.Core.Path.{◌≡◌}
use Rattle.run_store.proofs.grow.put_numbers.Given as goal

abbrev pub invariant-loop-i : goal.invariant-loop-i
invariant-loop-i g l =
    (l.i ≤ l.n) × Room (length l.bytes) l.p l.width (l.n - l.i)
    × (sets l.initial.out l.at (several l.width (λ b. g.T.Number.held b l.skip) l.n (drop l.base l.bytes))
    ≡ sets l.out (l.at + l.i) (several l.width (λ b. g.T.Number.held b l.skip) (l.n - l.i) (drop l.p l.bytes)))
