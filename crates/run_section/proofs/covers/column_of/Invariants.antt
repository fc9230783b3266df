-- The invariant: what stands in front is the column so far.
use mathlib.Core.Path.{◌≡◌}
use Prim.Native.Nat.{◌≤◌, ◌-◌, ◌*◌}
use lib.ListN.{length, take, drop}
use Rattle.archive_bytes.specs.Bytes.{several}
use Rattle.run_section.specs.Tables.{field}
use Rattle.run_section.proofs.covers.column_of.Given as goal

abbrev pub invariant-loop-i : goal.invariant-loop-i
invariant-loop-i l = (l.i ≤ l.n) × (length l.out ≡ 1024) × (take l.i l.out ≡ several 4 (field l.k) l.i (drop (l.a * 4) l.rows))
