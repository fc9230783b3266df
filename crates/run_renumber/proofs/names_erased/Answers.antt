use borrow.Author.Rules.{rules}
use Rattle.run_renumber.proofs.Erased.{none-erased, this-erased, next-erased}
use Rattle.run_renumber.proofs.names_erased.Goals as goal

pub returns-then-is_erased : goal.returns-then-is_erased
returns-then-is_erased c = search this-erased

pub loop-i-preserved : goal.loop-i-preserved
loop-i-preserved c = search (rules, next-erased)

pub returns : goal.returns
returns c = search none-erased
