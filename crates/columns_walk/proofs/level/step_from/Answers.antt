use Rattle.columns.proofs.Handed.{handed-on}
use Rattle.columns_walk.proofs.level.Verdicts.{next-refused, next-kept, room_out, next-counted, next-written, few-visited}
use borrow.Author.Rules.{rules}
use Rattle.columns_walk.proofs.level.step_from.Goals as goal

pub hand-requires : goal.hand-requires
hand-requires c = (search (room_out, c.in_ok-read.was), (search (few-visited, c.in_ok-read.was), search rules))

pub returns-in_err-read-clause-value : goal.returns-in_err-read-clause-value
returns-in_err-read-clause-value c = handed-on _ c.from_residual.ensures (search (next-refused, c.in_err-read.was))

pub returns-in_err-read-clause-out_after : goal.returns-in_err-read-clause-out_after
returns-in_err-read-clause-out_after c = search (next-kept, c.in_err-read.was)

pub returns-clause-value : goal.returns-clause-value
returns-clause-value c = search (next-counted, c.in_ok-read.was)

pub returns-clause-out_after : goal.returns-clause-out_after
returns-clause-out_after c = search (next-written, c.in_ok-read.was)
