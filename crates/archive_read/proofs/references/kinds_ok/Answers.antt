use Rattle.archive_read.proofs.references.AtReferences.{kinds-start, kinds-done, kind-bad, space-bad, kind-good}
use borrow.Author.Rules.{rules}
use Rattle.archive_read.proofs.references.kinds_ok.Goals as goal

pub loop-i-init : goal.loop-i-init
loop-i-init c = (search rules, search kinds-start)

pub returns-then-b-q-gt5 : goal.returns-then-b-q-gt5
returns-then-b-q-gt5 c = search (rules, kind-bad)

pub returns-then-b-q-gt3 : goal.returns-then-b-q-gt3
returns-then-b-q-gt3 c = search (rules, space-bad)

pub loop-i-preserved : goal.loop-i-preserved
loop-i-preserved c = (search rules, search (rules, kind-good))

pub returns : goal.returns
returns c = search (rules, kinds-done)
