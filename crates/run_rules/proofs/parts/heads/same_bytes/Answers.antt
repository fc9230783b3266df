use Rattle.run_rules.proofs.parts.HeadTests.{other_length, same-done, same_not, same-on}
use borrow.Author.Rules.{rules}
use Rattle.run_rules.proofs.parts.heads.same_bytes.Goals as goal

pub returns-then-a-b : goal.returns-then-a-b
returns-then-a-b c = search other_length

pub returns-then-a-i : goal.returns-then-a-i
returns-then-a-i c = search (rules, same_not)

pub loop-i-preserved : goal.loop-i-preserved
loop-i-preserved c = search (rules, same-on)

pub returns : goal.returns
returns c = search (rules, same-done)
