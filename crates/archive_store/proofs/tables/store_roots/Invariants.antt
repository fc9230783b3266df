use Rattle.std.proofs.Common.{◌≡◌, ◌+◌, ◌*◌, ◌≤◌, length, drop}
use lib.Seq.{sets}
use Rattle.lists.specs.Lists.{flat}
use Rattle.archive.specs.Encode.{root_bytes}
use Rattle.archive_store.specs.Lent.{zip2, root_from}
use Rattle.archive_store.proofs.tables.store_roots.Given as goal

abbrev pub invariant-loop-i : goal.invariant-loop-i
invariant-loop-i l =
    (l.i ≤ length l.rows) × (l.p ≡ l.at + l.i * 16) × (length l.out ≡ length l.initial.out)
    × (sets l.initial.out l.at (flat root_bytes (zip2 root_from l.rows l.handles)) ≡ sets l.out l.p (flat root_bytes (zip2 root_from (drop l.i l.rows) (drop l.i l.handles))))
