use Rattle.run_section.proofs.covers.Laying.{laid-start, laid-turn, laid-all}
use borrow.Author.Rules.{rules}
use Rattle.run_section.proofs.covers.lay_ranges.Goals as goal

pub loop-i-init : goal.loop-i-init
loop-i-init c = search (rules, laid-start)

pub loop-i-preserved : goal.loop-i-preserved
loop-i-preserved c = search (rules, laid-turn)

pub returns : goal.returns
returns c = search (rules, laid-all)
