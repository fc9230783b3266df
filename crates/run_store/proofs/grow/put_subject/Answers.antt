use Rattle.run_store.proofs.grow.Turns.{subject-starts, subject-put, subject-more}
use borrow.Author.Rules.{rules}
use Rattle.run_store.proofs.grow.put_subject.Goals as goal

pub loop-i-init : goal.loop-i-init
loop-i-init c = (search rules, search subject-starts)

pub loop-i-preserved : goal.loop-i-preserved
loop-i-preserved c = (search rules, search subject-more)

pub returns : goal.returns
returns c = search subject-put
