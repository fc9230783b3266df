use mathlib.Core.Path.{◌≡◌}
use Prim.Native.Nat.{◌≤◌, ◌+◌, ◌-◌, ◌*◌}
use lib.ListN.{length, drop}
use lib.Seq.{sets}
use Rattle.lists.specs.Lists.{flat}
use Rattle.archive_bytes.specs.Bytes.{several}
use Rattle.archive.specs.Encode.{unresolved_bytes}
use Rattle.run_section.specs.Tables.{unresolved_in}
use Rattle.run_records.specs.Narrow.{NarrowUnresolved}
use Rattle.run_records.proofs.tables.store_unresolved.Given as goal

abbrev pub invariant-loop-i : goal.invariant-loop-i
invariant-loop-i l =
    (l.i ≤ l.n) × (l.p ≡ l.at + l.i * 13) × (l.j ≡ l.q + l.i * 3) × (length l.out ≡ length l.initial.out)
    × (sets l.initial.out l.at (flat unresolved_bytes (several 3 unresolved_in l.n (drop l.q l.unresolved)))
    ≡ sets l.out l.p (flat unresolved_bytes (several 3 unresolved_in (l.n - l.i) (drop l.j l.unresolved))))
    × NarrowUnresolved (l.n - l.i) (drop l.j l.unresolved)
