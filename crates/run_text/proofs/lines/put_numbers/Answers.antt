use Rattle.run_text.proofs.lines.Columns.{begin, turn, ended}
use borrow.Author.Rules.{rules}
use Rattle.run_text.proofs.lines.put_numbers.Goals as goal

pub loop-x-init : goal.loop-x-init
loop-x-init c = search (rules, begin)

pub loop-x-preserved : goal.loop-x-preserved
loop-x-preserved c = search (rules, turn)

pub returns : goal.returns
returns c = search (rules, ended)
