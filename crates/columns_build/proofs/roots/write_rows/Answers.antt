use Rattle.columns_build.proofs.RootRows.{this-from-first, rest-inside, row_more, rows-done}
use borrow.Author.Rules.{rules}
use Rattle.columns_build.proofs.roots.write_rows.Goals as goal

pub overflow_sub-out : goal.overflow_sub-out
overflow_sub-out c = search (rules, this-from-first)

pub loop-i-preserved : goal.loop-i-preserved
loop-i-preserved c = search (rules, rest-inside, row_more)

pub returns : goal.returns
returns c = search (rules, rows-done)
