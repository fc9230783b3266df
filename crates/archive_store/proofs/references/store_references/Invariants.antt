use Rattle.std.proofs.Common.{◌-◌, ◌<◌, length, drop}
use Rattle.lists.proofs.Storing.{Storing}
use Rattle.archive.specs.Encode.{references_bytes}
use Rattle.archive_store.specs.Lent.{cited_from}
use Rattle.archive_store.proofs.references.store_references.Given as goal

abbrev pub invariant-loop-i : goal.invariant-loop-i
invariant-loop-i l =
    (l.i < length l.offsets)
    × Storing l.initial.out l.at (references_bytes (cited_from l.offsets l.kinds l.spaces l.targets)) l.out l.p (references_bytes (drop l.i (cited_from l.offsets l.kinds l.spaces l.targets)))

abbrev pub decreases-loop-i : goal.decreases-loop-i
decreases-loop-i l = length l.offsets - l.i
