use Rattle.run_store.proofs.grow.Turns.{offsets-start, offsets-put, offset-more, offset-fits}
use borrow.Author.Rules.{rules}
use Rattle.run_store.proofs.grow.put_offsets.Goals as goal

pub loop-i-init : goal.loop-i-init
loop-i-init c = (search rules, search offsets-start, search rules)

pub overflow_add-out : goal.overflow_add-out
overflow_add-out c = search offset-fits

pub loop-i-preserved : goal.loop-i-preserved
loop-i-preserved c = (search rules, search rules, search offset-more)

pub returns : goal.returns
returns c = offsets-put _ _ _ _ _ c.loop-i.invariant.2 c.loop-i-test.false
