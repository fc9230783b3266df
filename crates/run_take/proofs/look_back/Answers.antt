use Rattle.run_take.proofs.LastGroup.{last-there, end_fits, no-groups, last-group}
use borrow.Author.Rules.{rules}
use Rattle.run_take.proofs.look_back.Goals as goal

pub returns-then-n-eq0 : goal.returns-then-n-eq0
returns-then-n-eq0 c = search no-groups

pub overflow_add-result : goal.overflow_add-result
overflow_add-result c = search (rules, end_fits)

pub bounds-covered-last : goal.bounds-covered-last
bounds-covered-last c = search last-there

pub returns : goal.returns
returns c = search last-group
