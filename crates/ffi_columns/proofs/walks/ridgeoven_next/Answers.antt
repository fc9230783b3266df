use Rattle.ffi_columns.proofs.Told.{unnamed-counted, unnamed-as-was, next-told, next-written}
use Rattle.ffi_columns.proofs.walks.ridgeoven_next.Goals as goal

pub returns-in_default-clause-value : goal.returns-in_default-clause-value
returns-in_default-clause-value c = search (unnamed-counted 1, c.in_default.ensures)

pub returns-in_default-clause-level_after : goal.returns-in_default-clause-level_after
returns-in_default-clause-level_after c = search (unnamed-as-was 1, c.in_default.ensures)

pub returns-clause-value : goal.returns-clause-value
returns-clause-value c = search (next-told, c.in-Some.ensures)

pub returns-clause-level_after : goal.returns-clause-level_after
returns-clause-level_after c = search (next-written, c.in-Some.ensures)
