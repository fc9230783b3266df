use mathlib.Core.Path.{◌≡◌}
use Prim.Native.Nat.{◌≤◌, ◌+◌, ◌-◌, ◌*◌}
use lib.ListN.{length, drop}
use lib.Seq.{sets}
use Rattle.lists.specs.Lists.{flat}
use Rattle.archive_bytes.specs.Bytes.{several}
use Rattle.archive.specs.Encode.{row_bytes}
use Rattle.run_records.specs.Stored.{row_in}
use Rattle.run_records.proofs.tables.store_rows.Given as goal

abbrev pub invariant-loop-i : goal.invariant-loop-i
invariant-loop-i l =
    (l.i ≤ l.n) × (l.p ≡ l.at + l.i * 9) × (l.j ≡ l.q + l.i * 4) × (length l.out ≡ length l.initial.out)
    × (sets l.initial.out l.at (flat row_bytes (several 4 row_in l.n (drop l.q l.rows))) ≡ sets l.out l.p (flat row_bytes (several 4 row_in (l.n - l.i) (drop l.j l.rows))))
