use Rattle.std.proofs.Common.{◌≡◌, ◌+◌, ◌*◌, ◌≤◌, length, drop}
use lib.Seq.{sets}
use Rattle.lists.specs.Lists.{flat}
use Rattle.archive.specs.Encode.{unresolved_bytes}
use Rattle.archive_store.specs.Lent.{zip3, unresolved_from}
use Rattle.archive_store.proofs.tables.store_unresolved.Given as goal

abbrev pub invariant-loop-i : goal.invariant-loop-i
invariant-loop-i l =
    (l.i ≤ length l.children) × (l.p ≡ l.at + l.i * 13) × (length l.out ≡ length l.initial.out)
    × (sets l.initial.out l.at (flat unresolved_bytes (zip3 unresolved_from l.children l.kinds l.handles))
    ≡ sets l.out l.p (flat unresolved_bytes (zip3 unresolved_from (drop l.i l.children) (drop l.i l.kinds) (drop l.i l.handles))))
