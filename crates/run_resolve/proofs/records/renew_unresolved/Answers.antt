-- What is kept and moved are the survivors' records.
use Rattle.run_resolve.proofs.records.NewRecords.{children-none, children-new, children-room, children-few}
use Rattle.run_resolve.proofs.records.renew_unresolved.Goals as goal

pub returns-then-count-eq0-clause-result_after : goal.returns-then-count-eq0-clause-result_after
returns-then-count-eq0-clause-result_after c = search children-none

pub move_rows-requires : goal.move_rows-requires
move_rows-requires c = search children-room

pub returns-clause-result_after : goal.returns-clause-result_after
returns-clause-result_after c = search children-new

pub returns-clause-upper_bound : goal.returns-clause-upper_bound
returns-clause-upper_bound c = search children-few
