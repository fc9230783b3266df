use borrow.Author.Rules.{rules}
use Rattle.ffi_run.proofs.ByNumbers.{counted-by}
use Rattle.ffi_run.proofs.ridgeoven_reparented.Goals as goal

pub returns : goal.returns
returns c = search (rules, counted-by)
