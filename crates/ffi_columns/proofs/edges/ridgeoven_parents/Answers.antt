use Rattle.ffi_columns.proofs.Told.{unnamed-counted, unnamed-as-was, parents-told, parents-written}
use Rattle.ffi_columns.proofs.edges.ridgeoven_parents.Goals as goal

pub returns-in_default-clause-value : goal.returns-in_default-clause-value
returns-in_default-clause-value c = search (unnamed-counted 1, c.in_default.ensures)

pub returns-in_default-clause-list_after : goal.returns-in_default-clause-list_after
returns-in_default-clause-list_after c = search (unnamed-as-was 1, c.in_default.ensures)

pub returns-clause-value : goal.returns-clause-value
returns-clause-value c = search (parents-told, c.in-Some.ensures)

pub returns-clause-list_after : goal.returns-clause-list_after
returns-clause-list_after c = search (parents-written, c.in-Some.ensures)
