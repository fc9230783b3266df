use Rattle.columns_walk.proofs.Starting.{counted, numbered, ended}
use borrow.Author.Rules.{rules}
use Rattle.columns_walk.proofs.hand.Goals as goal

pub returns-clause-value : goal.returns-clause-value
returns-clause-value c = search counted

pub returns-clause-out_after : goal.returns-clause-out_after
returns-clause-out_after c = search numbered

pub returns-clause-ends_after : goal.returns-clause-ends_after
returns-clause-ends_after c = search (rules, ended)
