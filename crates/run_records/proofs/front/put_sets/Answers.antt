use Rattle.run_section.specs.Files.{sets_over}
use Rattle.run_records.proofs.SetsStored.{first-room, second-room, third-room, sets-stored, sets-after}
use borrow.Author.Rules.{rules}
use Rattle.run_records.proofs.front.put_sets.Goals as goal

pub put_set-p-requires-clause-targets_in_bounds : goal.put_set-p-requires-clause-targets_in_bounds
unfolding sets_over
put_set-p-requires-clause-targets_in_bounds c = search (rules, first-room)

pub put_set-q-requires-clause-targets_in_bounds : goal.put_set-q-requires-clause-targets_in_bounds
unfolding sets_over
put_set-q-requires-clause-targets_in_bounds c = search (rules, second-room)

pub put_set-requires-clause-targets_in_bounds : goal.put_set-requires-clause-targets_in_bounds
unfolding sets_over
put_set-requires-clause-targets_in_bounds c = search (rules, third-room)

pub returns-clause-out_after : goal.returns-clause-out_after
unfolding sets_over
returns-clause-out_after c = search (rules, sets-stored)

pub returns-clause-value : goal.returns-clause-value
unfolding sets_over
returns-clause-value c = search (rules, sets-after)
