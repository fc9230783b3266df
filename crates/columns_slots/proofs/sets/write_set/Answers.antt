use borrow.Author.Rules.{rules}
use Rattle.columns_slots.proofs.sets.Writes.{has-offset, first-offset, rest-written, rest-counted}
use Rattle.columns_slots.proofs.sets.Rows.{row-few, row-onward, next-offset, all_written, all-counted}
use Rattle.columns_slots.proofs.sets.write_set.Goals as goal

pub loop-slot-init : goal.loop-slot-init
loop-slot-init c = (search rules, search rules, search has-offset, search first-offset, search rules, search rules, search rules)

pub write_row-at-requires-clause-slot_value : goal.write_row-at-requires-clause-slot_value
write_row-at-requires-clause-slot_value c = (search rules, (search rules, search row-few))

pub loop-slot-preserved : goal.loop-slot-preserved
loop-slot-preserved c = (search rules, search rules, search rules, search next-offset, search rules, search (rest-counted, row-onward), search (rest-written, row-onward))

pub returns-clause-value : goal.returns-clause-value
returns-clause-value c = search all-counted

pub returns-clause-out_after : goal.returns-clause-out_after
returns-clause-out_after c = search all_written
