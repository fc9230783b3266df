use lib.Seq.{slice}
use Rattle.columns_refs.specs.References.{references_of, records_from}
use Rattle.columns_refs.proofs.Notes.{Noting}
use Rattle.columns_refs.proofs.records.note_row.Given as goal

abbrev pub invariant-loop-i : goal.invariant-loop-i
invariant-loop-i l =
    Noting l.initial.children l.initial.ukinds l.initial.handles l.at
    (records_from l.event l.from (slice l.from l.to (references_of l.lent.kinds.now l.lent.spaces.now l.lent.targets.now l.lent.known.now l.lent.numbers.now))) l.children l.ukinds l.handles l.p
    (records_from l.event l.i (slice l.i l.to (references_of l.lent.kinds.now l.lent.spaces.now l.lent.targets.now l.lent.known.now l.lent.numbers.now)))
