-- The invariant: the groups that are sorted, and those that are left.
use mathlib.Core.Path.{◌≡◌}
use mathlib.Core.Bool.{true}
use mathlib.Core.List.{◌++◌}
use Prim.Native.Nat.{◌≤◌}
use lib.Seq.{slice}
use Rattle.lists.specs.Order.{level_above}
use Rattle.cleaning.specs.Survivors.{sort_groups}
use Rattle.run_state.specs.View.{listed, link_at}
use Rattle.run_state.specs.ByColumns.{links_of}
use Rattle.run_resolve.proofs.links.GroupTurns.{groups_left}
use Rattle.run_resolve.proofs.links.sort_into.Given as goal

abbrev pub invariant-loop-g : goal.invariant-loop-g
invariant-loop-g l =
    (l.g ≤ l.count) × (l.i ≤ l.n) × (l.k ≤ l.i) × (level_above l.g (slice l.i l.n l.groups) ≡ true)
    × (sort_groups l.count (listed (link_at (links_of l.n l.groups l.a l.b l.c l.d)) l.n)
    ≡ listed (link_at (links_of l.k l.out l.x l.y l.z l.w)) l.k ++ groups_left (links_of l.n l.groups l.a l.b l.c l.d) l.count l.i l.g)
