use Prim.Native.Nat.{◌≤◌, ◌+◌, ◌-◌}
use mathlib.Core.Path.{◌≡◌}
use mathlib.Core.List.{◌++◌}
use lib.ListN.{length, take}
use Rattle.columns.specs.Limits.{kinds}
use Rattle.lists.specs.Lists.{up_from}
use Rattle.archive.specs.Parse.{files}
use Rattle.archive_groups.proofs.Marked.{Still}
use Rattle.archive_groups.proofs.groups_over.Given as goal

abbrev pub invariant-loop-p : goal.invariant-loop-p
invariant-loop-p l =
    (l.p ≤ length l.bytes) × (l.m ≤ l.p) × (l.k + l.n ≤ 16) × (length l.list ≡ 17) × Still l.bytes l.k (up_from 0 l.k ++ take l.n l.list) (files kinds (length l.bytes - l.m) l.bytes l.p)

abbrev pub decreases-loop-p : goal.decreases-loop-p
decreases-loop-p l = length l.bytes - l.p
