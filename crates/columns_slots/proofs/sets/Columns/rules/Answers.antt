use Rattle.columns_slots.proofs.sets.Turns.{bad-form, no_edges, bad-count, deltas-whole, deltas-climb, bad-side, all-kept, by_number}
use Rattle.columns_slots.proofs.sets.Columns.rules.Goals as goal

pub returns-then-not-is_form : goal.returns-then-not-is_form
returns-then-not-is_form c = search bad-form

pub returns-then-self-eq0 : goal.returns-then-self-eq0
returns-then-self-eq0 c = search no_edges

pub returns-then-self : goal.returns-then-self
returns-then-self c = search bad-count

pub are_sound-requires-clause-offsets_len : goal.are_sound-requires-clause-offsets_len
are_sound-requires-clause-offsets_len c = (search deltas-whole, search deltas-climb)

pub returns-then-not-are_sound : goal.returns-then-not-are_sound
returns-then-not-are_sound c = search (bad-side, by_number)

pub returns : goal.returns
returns c = search (all-kept, by_number)
