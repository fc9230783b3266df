use borrow.Author.Rules.{rules}
use Rattle.ffi_clean.proofs.ByNumbers.{gives-by}
use Rattle.ffi_clean.proofs.ridgeoven_write.Goals as goal

pub returns : goal.returns
returns c = search (rules, gives-by)
