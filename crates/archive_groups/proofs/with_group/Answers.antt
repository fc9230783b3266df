use lib.ListN.{length-set}
use Rattle.archive_groups.proofs.Marked.{below-k, met, unmet}
use borrow.Author.Rules.{rules}
use Rattle.archive_groups.proofs.with_group.Goals as goal

pub returns-then-from-k-clause-list_after : goal.returns-then-from-k-clause-list_after
returns-then-from-k-clause-list_after c = search (rules, below-k)

pub returns-then-from-k-clause-upper_bound : goal.returns-then-from-k-clause-upper_bound
returns-then-from-k-clause-upper_bound c = (search rules, search rules)

pub returns-then-among-clause-list_after : goal.returns-then-among-clause-list_after
returns-then-among-clause-list_after c = search (rules, met)

pub returns-then-among-clause-upper_bound : goal.returns-then-among-clause-upper_bound
returns-then-among-clause-upper_bound c = (search rules, search rules)

pub returns-clause-list_after : goal.returns-clause-list_after
returns-clause-list_after c = search (rules, unmet)

pub returns-clause-upper_bound : goal.returns-clause-upper_bound
returns-clause-upper_bound c = (search rules, simp length-set (search rules))
