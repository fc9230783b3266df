use borrow.Author.Rules.{rules}
use Rattle.ffi_run.proofs.ByNumbers.{steps-by}
use Rattle.ffi_run.proofs.ridgeoven_take.Goals as goal

pub returns : goal.returns
returns c = search (rules, steps-by)
