use Rattle.run.proofs.Views.{fresh-run}
use borrow.Author.Rules.{rules}
use Rattle.run.proofs.new.Goals as goal

pub returns : goal.returns
returns c = search (rules, fresh-run)
