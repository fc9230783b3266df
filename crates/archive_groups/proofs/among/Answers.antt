use Rattle.archive_groups.proofs.Marked.{none_left, is-here, not-here}
use borrow.Author.Rules.{rules}
use Rattle.archive_groups.proofs.among.Goals as goal

pub returns-then-list-i : goal.returns-then-list-i
returns-then-list-i c = search (rules, is-here)

pub loop-i-preserved : goal.loop-i-preserved
loop-i-preserved c = (search rules, search (rules, not-here))

pub returns : goal.returns
returns c = search (rules, none_left)
