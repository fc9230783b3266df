use Rattle.cover_rows.proofs.Columned.{fit-start, fit-done, fit-not, fit_on}
use borrow.Author.Rules.{rules}
use Rattle.cover_rows.proofs.sums_fit.Goals as goal

pub loop-i-init : goal.loop-i-init
loop-i-init c = (search rules, search rules, search fit-start)

pub returns-then-sum-d : goal.returns-then-sum-d
returns-then-sum-d c = search fit-not

pub loop-i-preserved : goal.loop-i-preserved
loop-i-preserved c = (search rules, search rules, search fit_on)

pub returns : goal.returns
returns c = search fit-done
