-- The loop's invariant: i records have their number.
use mathlib.Core.Path.{◌≡◌}
use Prim.Native.Nat.{◌+◌, ◌-◌, ◌*◌, ◌≤◌}
use Rattle.run_section.specs.Laid.{ColumnPut}
use Rattle.run_section.proofs.tables.put_bytes.Given as goal

abbrev pub invariant-loop-i : goal.invariant-loop-i
invariant-loop-i l = (l.i ≤ l.n) × (l.p ≡ l.i * l.w + l.k) × ColumnPut l.w l.k l.i 256 l.column l.initial.out l.out
