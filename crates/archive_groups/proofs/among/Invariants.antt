use mathlib.Core.Path.{◌≡◌}
use Prim.Native.Nat.{◌≤◌}
use lib.ListN.{take}
use lib.Seq.{slice}
use Rattle.lists.specs.Lists.{mem}
use Rattle.archive_groups.proofs.among.Given as goal

abbrev pub invariant-loop-i : goal.invariant-loop-i
invariant-loop-i l = (l.i ≤ l.n) × (mem l.g (take l.n l.list) ≡ mem l.g (slice l.i l.n l.list))
