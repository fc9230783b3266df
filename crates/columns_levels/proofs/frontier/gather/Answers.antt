use Rattle.columns_levels.proofs.frontier.Turns.{gathered}
use borrow.Author.Rules.{rules}
use Rattle.columns_levels.proofs.frontier.gather.Goals as goal

pub returns-clause-upper_bound : goal.returns-clause-upper_bound
returns-clause-upper_bound c = (search rules, search rules)

pub returns-clause-laid : goal.returns-clause-laid
returns-clause-laid c = search gathered
