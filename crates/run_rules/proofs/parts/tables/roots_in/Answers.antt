use Rattle.run_rules.proofs.parts.RecordTurns.{roots-start, roots-done, root-outside, root-inside}
use borrow.Author.Rules.{rules}
use Rattle.run_rules.proofs.parts.tables.roots_in.Goals as goal

pub loop-i-init : goal.loop-i-init
loop-i-init c = (search rules, search rules, search roots-start)

pub returns-then-rows-x : goal.returns-then-rows-x
returns-then-rows-x c = search (rules, root-outside)

pub loop-i-preserved : goal.loop-i-preserved
loop-i-preserved c = search (rules, root-inside)

pub returns : goal.returns
returns c = search (rules, roots-done)
