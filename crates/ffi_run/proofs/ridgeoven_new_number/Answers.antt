use borrow.Author.Rules.{rules}
use Rattle.ffi_run.specs.Steps.{told_of}
use Rattle.ffi_run.proofs.ByNumbers.{answered-by}
use Rattle.ffi_run.proofs.ridgeoven_new_number.Goals as goal

pub returns : goal.returns
returns c = search (rules, answered-by told_of)
