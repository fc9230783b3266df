use borrow.Author.Rules.{rules}
use Rattle.ffi_clean.proofs.ByNumbers.{prints-by}
use Rattle.ffi_clean.proofs.ridgeoven_list.Goals as goal

pub returns : goal.returns
returns c = search (rules, prints-by)
