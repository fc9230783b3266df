-- By the flag.
use borrow.Author.Rules.{rules}
use Rattle.run_renumber.proofs.Counted.{takes_one, takes_none}
use Rattle.run_renumber.proofs.takes_one.Goals as goal

pub returns-then-flag-eq0 : goal.returns-then-flag-eq0
returns-then-flag-eq0 c = (search takes_one, search rules)

pub returns-else-flag-eq0 : goal.returns-else-flag-eq0
returns-else-flag-eq0 c = (search takes_none, search rules)
