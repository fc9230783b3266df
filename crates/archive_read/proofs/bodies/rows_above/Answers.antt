use Rattle.archive_read.proofs.bodies.AtTables.{first-root, above-done, not-above, is-above}
use borrow.Author.Rules.{rules}
use Rattle.archive_read.proofs.bodies.rows_above.Goals as goal

pub loop-i-init : goal.loop-i-init
loop-i-init c = (search rules, search (rules, first-root))

pub returns-then-x-last : goal.returns-then-x-last
returns-then-x-last c = search (rules, not-above)

pub loop-i-preserved : goal.loop-i-preserved
loop-i-preserved c = (search rules, search (rules, is-above))

pub returns : goal.returns
returns c = search (rules, above-done)
