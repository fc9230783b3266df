use Rattle.run_section.proofs.covers.Joining.{end-place, end_fits, same-room, covers-turn, covers-none, covers-all}
use borrow.Author.Rules.{rules}
use Rattle.run_section.proofs.covers.covers_of.Goals as goal

pub loop-g-init : goal.loop-g-init
loop-g-init c = (search rules, search rules, search rules, search rules, search (rules, covers-none))

pub add_group-added-requires-clause-rows_bound : goal.add_group-added-requires-clause-rows_bound
add_group-added-requires-clause-rows_bound c = (search rules, (search rules, search (rules, end-place)))

pub overflow_add-ends : goal.overflow_add-ends
overflow_add-ends c = search (rules, end_fits)

pub loop-g-preserved : goal.loop-g-preserved
loop-g-preserved c = (search rules, search rules, search rules, search (rules, same-room), search (rules, covers-turn))

pub returns-clause-covers_at : goal.returns-clause-covers_at
returns-clause-covers_at c = search (rules, covers-all)
