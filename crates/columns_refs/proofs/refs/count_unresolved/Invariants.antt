use Prim.Native.Nat.{◌+◌, ◌≤◌}
use mathlib.Core.Path.{◌≡◌}
use lib.ListN.{length, drop}
use Rattle.lists.specs.Lists.{filter}
use Rattle.columns_refs.specs.References.{references_of, is_unresolved}
use Rattle.columns_refs.proofs.refs.count_unresolved.Given as goal

abbrev pub invariant-loop-i : goal.invariant-loop-i
invariant-loop-i l =
    (l.i ≤ l.n) × (l.count ≤ l.i)
    × (length (filter is_unresolved (references_of l.lent.kinds.now l.lent.spaces.now l.lent.targets.now l.lent.known.now l.lent.numbers.now))
    ≡ l.count + length (filter is_unresolved (drop l.i (references_of l.lent.kinds.now l.lent.spaces.now l.lent.targets.now l.lent.known.now l.lent.numbers.now))))
