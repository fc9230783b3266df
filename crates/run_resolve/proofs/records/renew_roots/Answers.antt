-- What is kept and moved are the survivors' records.
use Rattle.run_resolve.proofs.records.NewRecords.{roots-none, roots-new, roots-room, roots_few}
use Rattle.run_resolve.proofs.records.renew_roots.Goals as goal

pub returns-then-count-eq0-clause-result_after : goal.returns-then-count-eq0-clause-result_after
returns-then-count-eq0-clause-result_after c = search roots-none

pub move_rows-requires : goal.move_rows-requires
move_rows-requires c = search roots-room

pub returns-clause-result_after : goal.returns-clause-result_after
returns-clause-result_after c = search roots-new

pub returns-clause-upper_bound : goal.returns-clause-upper_bound
returns-clause-upper_bound c = search roots_few
