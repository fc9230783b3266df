use mathlib.Core.Path.{◌≡◌}
use Prim.Native.Nat.{◌≤◌, ◌+◌, ◌-◌, ◌*◌}
use lib.ListN.{length, drop}
use lib.Seq.{sets}
use Rattle.archive_bytes.specs.Bytes.{several}
use Rattle.archive.specs.Encode.{column_bytes}
use Rattle.run_section.specs.Tables.{field}
use Rattle.run_records.specs.Narrow.{HalfColumn}
use Rattle.run_records.proofs.strided.store_halves.Given as goal

abbrev pub invariant-loop-i : goal.invariant-loop-i
invariant-loop-i l =
    (l.i ≤ l.n) × (l.p ≡ l.at + l.i * 4) × (length l.out ≡ length l.initial.out) × HalfColumn l.width l.j (l.n - l.i) l.k l.table
    × (sets l.initial.out l.at (column_bytes 4 (several l.width (field l.j) l.n (drop l.q l.table))) ≡ sets l.out l.p (column_bytes 4 (several l.width (field l.j) (l.n - l.i) (drop l.k l.table))))
