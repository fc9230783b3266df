use Rattle.run_text.proofs.lines.Columns.{begin, turn_signed, ended}
use borrow.Author.Rules.{rules}
use Rattle.run_text.proofs.lines.put_deltas.Goals as goal

pub loop-d-init : goal.loop-d-init
loop-d-init c = search (rules, begin)

pub loop-d-preserved : goal.loop-d-preserved
loop-d-preserved c = search (rules, turn_signed)

pub returns : goal.returns
returns c = search (rules, ended)
