use borrow.Author.Rules.{rules}
use Rattle.ffi_clean.proofs.ByNumbers.{short-by, told-by}
use Rattle.ffi_clean.proofs.ridgeoven_words.Goals as goal

pub returns-then-out-lt120 : goal.returns-then-out-lt120
returns-then-out-lt120 c = search (rules, short-by)

pub returns : goal.returns
returns c = search (rules, told-by)
