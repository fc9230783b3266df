use lib.Seq.{slice}
use Rattle.lists.proofs.Storing.{Storing}
use Rattle.columns_refs.specs.References.{references_of, parents_of}
use Rattle.columns_refs.proofs.parents.write_slot.Given as goal

abbrev pub invariant-loop-i : goal.invariant-loop-i
invariant-loop-i l =
    Storing l.initial.out l.at (parents_of l.kind (slice l.from l.to (references_of l.lent.kinds.now l.lent.spaces.now l.lent.targets.now l.lent.known.now l.lent.numbers.now))) l.out l.p
    (parents_of l.kind (slice l.i l.to (references_of l.lent.kinds.now l.lent.spaces.now l.lent.targets.now l.lent.known.now l.lent.numbers.now)))
