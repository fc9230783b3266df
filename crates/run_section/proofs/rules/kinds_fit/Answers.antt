use Rattle.run_section.proofs.Tested.{kinds-start, kinds-done, kind-no, kind-yes}
use borrow.Author.Rules.{rules}
use Rattle.run_section.proofs.rules.kinds_fit.Goals as goal

pub loop-i-init : goal.loop-i-init
loop-i-init c = (search rules, search rules, search (rules, kinds-start))

pub returns-then-unresolved-p-ge2 : goal.returns-then-unresolved-p-ge2
returns-then-unresolved-p-ge2 c = search (rules, kind-no)

pub loop-i-preserved : goal.loop-i-preserved
loop-i-preserved c = (search rules, search rules, search (rules, kind-yes))

pub returns : goal.returns
returns c = search (rules, kinds-done)
