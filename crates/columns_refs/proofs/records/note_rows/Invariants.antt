use Prim.Native.Nat.{◌+◌, ◌≤◌}
use lib.ListN.{drop, get_or}
use Rattle.columns.specs.EdgeSet.{cut}
use Rattle.columns_refs.specs.References.{references_of, unresolved_from}
use Rattle.columns_refs.proofs.Notes.{Noting}
use Rattle.columns_refs.proofs.records.note_rows.Given as goal

abbrev pub invariant-loop-r : goal.invariant-loop-r
invariant-loop-r l =
    (l.r ≤ l.rows)
    × Noting l.initial.children l.initial.ukinds l.initial.handles 0
    (unresolved_from l.first 0 (cut l.starts (references_of l.lent.kinds.now l.lent.spaces.now l.lent.targets.now l.lent.known.now l.lent.numbers.now))) l.children l.ukinds l.handles l.p
    (unresolved_from (l.first + l.r) (get_or l.starts l.r 0) (drop l.r (cut l.starts (references_of l.lent.kinds.now l.lent.spaces.now l.lent.targets.now l.lent.known.now l.lent.numbers.now))))
