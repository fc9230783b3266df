use Rattle.columns_encode.proofs.Sets.{starts_room, deltas-room, inbound_room, three-counted}
use borrow.Author.Rules.{rules}
use Rattle.columns_encode.proofs.writing.write_sets.Goals as goal

pub write_set-forward-requires-clause-n_in_bounds : goal.write_set-forward-requires-clause-n_in_bounds
write_set-forward-requires-clause-n_in_bounds c = (search starts_room, search deltas-room)

pub write_table-inbound-requires-clause-rows_in_bounds : goal.write_table-inbound-requires-clause-rows_in_bounds
write_table-inbound-requires-clause-rows_in_bounds c = (search rules, search rules)

pub write_table-inbound-requires-clause-n_in_bounds : goal.write_table-inbound-requires-clause-n_in_bounds
write_table-inbound-requires-clause-n_in_bounds c = (search starts_room, search inbound_room)

pub write_turned-reverse-requires-clause-turnable : goal.write_turned-reverse-requires-clause-turnable
write_turned-reverse-requires-clause-turnable c = let ready = c.requires.ready in ready.reverse

pub write_turned-reverse-requires-clause-n_in_bounds : goal.write_turned-reverse-requires-clause-n_in_bounds
write_turned-reverse-requires-clause-n_in_bounds c = let ready = c.requires.ready in let rooms = c.requires.rooms in (starts_room _ _ _ _ _ _ _ _ _ ready _ rooms.reverse_offsets, rooms.reverse_deltas)

pub write_turned-reverse-requires-clause-in_bounds : goal.write_turned-reverse-requires-clause-in_bounds
write_turned-reverse-requires-clause-in_bounds c = c.requires.in_bounds

pub returns-clause-value : goal.returns-clause-value
returns-clause-value c = search three-counted
