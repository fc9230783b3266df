use Rattle.columns_sets.proofs.sets.SetWrites.{base-in, writing_begins, writing-done, writing-in, writing-base, writing-fits, writing-on}
use borrow.Author.Rules.{rules}
use Rattle.columns_sets.proofs.sets.write_deltas.Goals as goal

pub bounds-offsets-from : goal.bounds-offsets-from
bounds-offsets-from c = search base-in

pub loop-q-init : goal.loop-q-init
loop-q-init c = search writing_begins

pub write_slot_of-requires-clause-q_bound : goal.write_slot_of-requires-clause-q_bound
write_slot_of-requires-clause-q_bound c = (search writing-in, (search rules, (search rules, search writing-base)))

pub write_slot_of-requires-clause-targets_in_bounds : goal.write_slot_of-requires-clause-targets_in_bounds
write_slot_of-requires-clause-targets_in_bounds c = (search rules, search rules)

pub write_slot_of-requires-clause-q_value : goal.write_slot_of-requires-clause-q_value
write_slot_of-requires-clause-q_value c = search writing-fits

pub loop-q-preserved : goal.loop-q-preserved
loop-q-preserved c = search writing-on

pub returns : goal.returns
returns c = search writing-done
