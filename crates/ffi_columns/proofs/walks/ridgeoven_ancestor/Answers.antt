use Rattle.ffi_columns.proofs.Told.{unnamed-promised, named-promised}
use Rattle.ffi_columns.proofs.walks.ridgeoven_ancestor.Goals as goal

pub returns-in_default : goal.returns-in_default
returns-in_default c = search (unnamed-promised, c.in_default.ensures)

pub returns : goal.returns
returns c = search (named-promised, c.in-Some.ensures)
