use mathlib.Core.Path.{◌≡◌}
use Prim.Native.Nat.{◌-◌, ◌*◌, ◌≤◌}
use lib.ListN.{length}
use Rattle.run_text.proofs.lines.Columns.{Going}
use Rattle.run_list.specs.Rows.{rows_text}
use Rattle.run_list.proofs.OverRows.{rows_from}
use Rattle.run_list.proofs.maps.put_rows.Given as goal

abbrev pub invariant-loop-i : goal.invariant-loop-i
invariant-loop-i l =
    (l.i ≤ length l.flags) × (l.p ≤ 46 * l.i) × (length l.out ≡ length l.initial.out) × Going (rows_text l.start l.flags l.numbers) l.initial.out 0 l.out l.p (rows_from l.start l.flags l.numbers l.i)
