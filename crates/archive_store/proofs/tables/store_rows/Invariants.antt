use Rattle.std.proofs.Common.{◌≡◌, ◌+◌, ◌*◌, ◌≤◌, length, drop}
use lib.Seq.{sets}
use Rattle.lists.specs.Lists.{flat}
use Rattle.archive.specs.Encode.{row_bytes}
use Rattle.archive_store.specs.Lent.{zip2, row_from}
use Rattle.archive_store.proofs.tables.store_rows.Given as goal

abbrev pub invariant-loop-i : goal.invariant-loop-i
invariant-loop-i l =
    (l.i ≤ length l.tags) × (l.p ≡ l.at + l.i * 9) × (length l.out ≡ length l.initial.out)
    × (sets l.initial.out l.at (flat row_bytes (zip2 row_from l.flags l.tags)) ≡ sets l.out l.p (flat row_bytes (zip2 row_from (drop l.i l.flags) (drop l.i l.tags))))
