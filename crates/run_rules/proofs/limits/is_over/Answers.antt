use Rattle.run_rules.proofs.limits.Exits.{over-already, over-with}
use borrow.Author.Rules.{rules}
use Rattle.run_rules.proofs.limits.is_over.Goals as goal

pub returns-then-most-held : goal.returns-then-most-held
returns-then-most-held c = search (rules, over-already)

pub returns : goal.returns
returns c = search (rules, over-with)
