use Rattle.std.proofs.Common.{◌≡◌, ◌+◌, ◌*◌, ◌≤◌, length, drop}
use lib.Seq.{sets}
use Rattle.lists.specs.Lists.{flat}
use Rattle.archive.specs.Encode.{range_bytes}
use Rattle.archive_store.specs.Lent.{zip3, range_from}
use Rattle.archive_store.proofs.tables.store_ranges.Given as goal

abbrev pub invariant-loop-i : goal.invariant-loop-i
invariant-loop-i l =
    (l.i ≤ length l.ids) × (l.p ≡ l.at + l.i * 12) × (length l.out ≡ length l.initial.out)
    × (sets l.initial.out l.at (flat range_bytes (zip3 range_from l.ids l.minima l.maxima))
    ≡ sets l.out l.p (flat range_bytes (zip3 range_from (drop l.i l.ids) (drop l.i l.minima) (drop l.i l.maxima))))
