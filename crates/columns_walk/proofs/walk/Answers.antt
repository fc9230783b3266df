use Rattle.columns.proofs.Handed.{handed-on}
use Rattle.columns_walk.proofs.Verdicts.{walk_refused, walk-out, walk_ends, room_out, room-ends, walk-handed, walk-numbers, walk-stops}
use borrow.Author.Rules.{rules}
use Rattle.columns_walk.proofs.walk.Goals as goal

pub hand-requires : goal.hand-requires
hand-requires c = (search (room_out, c.in_ok-read.was), (search (room-ends, c.in_ok-read.was), search rules))

pub returns-in_err-read-clause-value : goal.returns-in_err-read-clause-value
returns-in_err-read-clause-value c = handed-on _ c.from_residual.ensures (search (walk_refused, c.in_err-read.was))

pub returns-in_err-read-clause-out_after : goal.returns-in_err-read-clause-out_after
returns-in_err-read-clause-out_after c = search (walk-out, c.in_err-read.was)

pub returns-in_err-read-clause-ends_after : goal.returns-in_err-read-clause-ends_after
returns-in_err-read-clause-ends_after c = search (walk_ends, c.in_err-read.was)

pub returns-clause-value : goal.returns-clause-value
returns-clause-value c = search (walk-handed, c.in_ok-read.was)

pub returns-clause-out_after : goal.returns-clause-out_after
returns-clause-out_after c = search (walk-numbers, c.in_ok-read.was)

pub returns-clause-ends_after : goal.returns-clause-ends_after
returns-clause-ends_after c = search (walk-stops, c.in_ok-read.was)
