use mathlib.Core.Path.{◌≡◌}
use Prim.Native.Nat.{◌≤◌, ◌+◌, ◌-◌, ◌*◌}
use lib.ListN.{length, drop}
use lib.Seq.{sets}
use Rattle.lists.specs.Lists.{flat}
use Rattle.archive_bytes.specs.Bytes.{several}
use Rattle.archive.specs.Encode.{root_bytes}
use Rattle.run_records.specs.Stored.{root_above_in}
use Rattle.run_records.proofs.tables.store_roots.Given as goal

abbrev pub invariant-loop-i : goal.invariant-loop-i
invariant-loop-i l =
    (l.i ≤ l.n) × (l.p ≡ l.at + l.i * 16) × (l.j ≡ l.q + l.i * 2) × (length l.out ≡ length l.initial.out)
    × (sets l.initial.out l.at (flat root_bytes (several 2 (root_above_in l.low) l.n (drop l.q l.roots)))
    ≡ sets l.out l.p (flat root_bytes (several 2 (root_above_in l.low) (l.n - l.i) (drop l.j l.roots))))
