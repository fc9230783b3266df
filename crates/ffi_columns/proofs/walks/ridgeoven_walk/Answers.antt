use Rattle.ffi_columns.proofs.Told.{unnamed-walked, unnamed-numbers, unnamed-ends, walk-told, numbers-written, ends-written}
use Rattle.ffi_columns.proofs.walks.ridgeoven_walk.Goals as goal

pub returns-in_default-clause-value : goal.returns-in_default-clause-value
returns-in_default-clause-value c = search (unnamed-walked 1, c.in_default.ensures)

pub returns-in_default-clause-numbers_after : goal.returns-in_default-clause-numbers_after
returns-in_default-clause-numbers_after c = search (unnamed-numbers 1, c.in_default.ensures)

pub returns-in_default-clause-ends_after : goal.returns-in_default-clause-ends_after
returns-in_default-clause-ends_after c = search (unnamed-ends 1, c.in_default.ensures)

pub returns-clause-value : goal.returns-clause-value
returns-clause-value c = search (walk-told, c.in-Some.ensures)

pub returns-clause-numbers_after : goal.returns-clause-numbers_after
returns-clause-numbers_after c = search (numbers-written, c.in-Some.ensures)

pub returns-clause-ends_after : goal.returns-clause-ends_after
returns-clause-ends_after c = search (ends-written, c.in-Some.ensures)
