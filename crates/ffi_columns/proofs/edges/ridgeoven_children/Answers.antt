use Rattle.ffi_columns.proofs.Told.{unnamed-counted, unnamed-as-was, children-told, children-written}
use Rattle.ffi_columns.proofs.edges.ridgeoven_children.Goals as goal

pub returns-in_default-clause-value : goal.returns-in_default-clause-value
returns-in_default-clause-value c = search (unnamed-counted 1, c.in_default.ensures)

pub returns-in_default-clause-list_after : goal.returns-in_default-clause-list_after
returns-in_default-clause-list_after c = search (unnamed-as-was 1, c.in_default.ensures)

pub returns-clause-value : goal.returns-clause-value
returns-clause-value c = search (children-told, c.in-Some.ensures)

pub returns-clause-list_after : goal.returns-clause-list_after
returns-clause-list_after c = search (children-written, c.in-Some.ensures)
