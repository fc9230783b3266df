use Rattle.run_compact.proofs.RecordTurns.{rows-moved, one-moved}
use borrow.Author.Rules.{rules}
use Rattle.run_compact.proofs.following.move_rows.Goals as goal

pub loop-i-preserved : goal.loop-i-preserved
loop-i-preserved c = search (rules, one-moved)

pub returns : goal.returns
returns c = search (rules, rows-moved)
