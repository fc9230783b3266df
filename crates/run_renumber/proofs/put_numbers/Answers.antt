use borrow.Author.Rules.{rules}
use Rattle.run_renumber.proofs.Counted.{numbers-begin, numbers_on, numbers-done, count-on, count_done}
use Rattle.run_renumber.proofs.put_numbers.Goals as goal

pub loop-i-init : goal.loop-i-init
loop-i-init c = (search rules, search rules, search rules, search numbers-begin, search rules)

pub loop-i-preserved : goal.loop-i-preserved
loop-i-preserved c = (search rules, search rules, search rules, search numbers_on, search count-on)

pub returns : goal.returns
returns c = (search numbers-done, search count_done)
