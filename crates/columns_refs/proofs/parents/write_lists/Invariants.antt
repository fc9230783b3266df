use Prim.Native.Nat.{◌*◌, ◌-◌, ◌≤◌}
use lib.ListN.{drop}
use Rattle.lists.specs.Lists as Lists
use Rattle.lists.proofs.Storing.{Storing}
use Rattle.columns.specs.EdgeSet.{cut}
use Rattle.columns_refs.specs.References.{references_of, parent_lists}
use Rattle.columns_refs.proofs.parents.write_lists.Given as goal

abbrev pub invariant-loop-q : goal.invariant-loop-q
invariant-loop-q l =
    (l.q ≤ 2 * l.rows)
    × Storing l.initial.offsets 0 (Lists.starts 0 (parent_lists (cut l.starts (references_of l.lent.kinds.now l.lent.spaces.now l.lent.targets.now l.lent.known.now l.lent.numbers.now)))) l.offsets l.q
    (Lists.starts l.p (drop l.q (parent_lists (cut l.starts (references_of l.lent.kinds.now l.lent.spaces.now l.lent.targets.now l.lent.known.now l.lent.numbers.now)))))
    × Storing l.initial.out 0 (Lists.joined (parent_lists (cut l.starts (references_of l.lent.kinds.now l.lent.spaces.now l.lent.targets.now l.lent.known.now l.lent.numbers.now)))) l.out l.p
    (Lists.joined (drop l.q (parent_lists (cut l.starts (references_of l.lent.kinds.now l.lent.spaces.now l.lent.targets.now l.lent.known.now l.lent.numbers.now)))))
