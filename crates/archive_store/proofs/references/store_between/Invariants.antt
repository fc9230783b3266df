use Rattle.std.proofs.Common.{◌≡◌, ◌+◌, ◌-◌, ◌*◌, ◌≤◌, length}
use lib.Seq.{slice, sets}
use Rattle.lists.specs.Lists.{flat}
use Rattle.archive.specs.Encode.{reference_bytes}
use Rattle.archive_store.specs.Lent.{zip3, reference_from}
use Rattle.archive_store.proofs.references.store_between.Given as goal

abbrev pub invariant-loop-i : goal.invariant-loop-i
invariant-loop-i l =
    (l.from ≤ l.i) × (l.i ≤ l.to) × (l.p ≡ l.at + (l.i - l.from) * 10) × (length l.out ≡ length l.initial.out)
    × (sets l.initial.out l.at (flat reference_bytes (slice l.from l.to (zip3 reference_from l.kinds l.spaces l.targets)))
    ≡ sets l.out l.p (flat reference_bytes (slice l.i l.to (zip3 reference_from l.kinds l.spaces l.targets))))
