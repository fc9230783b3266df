use Rattle.run_resolve.proofs.links.Copying.{end-start, end-last, end-all, end-here, end-level, end-own}
use borrow.Author.Rules.{rules}
use Rattle.run_resolve.proofs.links.end_of.Goals as goal

pub loop-p-init : goal.loop-p-init
loop-p-init c = (search rules, search rules, search (rules, end-start), search rules)

pub returns-then-groups-p : goal.returns-then-groups-p
returns-then-groups-p c = (search rules, (search rules, (search rules, search end-here)))

pub loop-p-preserved : goal.loop-p-preserved
loop-p-preserved c = (search rules, search rules, search end-own, search end-level)

pub returns : goal.returns
returns c = (search rules, (search rules, (search end-all, search end-last)))
