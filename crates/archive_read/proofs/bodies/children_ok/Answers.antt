use Rattle.archive_read.proofs.bodies.AtTables.{children-start, level-done, falling, level}
use borrow.Author.Rules.{rules}
use Rattle.archive_read.proofs.bodies.children_ok.Goals as goal

pub loop-i-init : goal.loop-i-init
loop-i-init c = (search rules, search children-start)

pub returns-then-x-low : goal.returns-then-x-low
returns-then-x-low c = search (rules, falling)

pub loop-i-preserved : goal.loop-i-preserved
loop-i-preserved c = (search rules, search (rules, level))

pub returns : goal.returns
returns c = search (rules, level-done)
