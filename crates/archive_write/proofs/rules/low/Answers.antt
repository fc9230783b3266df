use Rattle.archive_write.proofs.Judged.{starts-past, by_difference}
use borrow.Author.Rules.{rules}
use Rattle.archive_write.proofs.rules.low.Goals as goal

pub returns-then-len-at : goal.returns-then-len-at
returns-then-len-at c = search (rules, starts-past)

pub returns : goal.returns
returns c = search (rules, by_difference)
