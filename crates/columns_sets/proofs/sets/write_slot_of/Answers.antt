use Rattle.columns_sets.proofs.sets.SetWrites.{piece-order, piece-base, piece-fits, piece-says}
use Rattle.columns_rules.proofs.spans.SpanTurns.{gran-in, gran-next-in, gran-inside}
use borrow.Author.Rules.{rules}
use Rattle.columns_sets.proofs.sets.write_slot_of.Goals as goal

pub bounds-offsets-s : goal.bounds-offsets-s
bounds-offsets-s c = search gran-in

pub bounds-offsets-s-2 : goal.bounds-offsets-s-2
bounds-offsets-s-2 c = search gran-next-in

pub write_slot-requires-clause-base_le_a : goal.write_slot-requires-clause-base_le_a
write_slot-requires-clause-base_le_a c = (search piece-base, (search piece-order, (search gran-inside, search rules)))

pub write_slot-requires-clause-targets_value : goal.write_slot-requires-clause-targets_value
write_slot-requires-clause-targets_value c = search piece-fits

pub returns : goal.returns
returns c = search piece-says
