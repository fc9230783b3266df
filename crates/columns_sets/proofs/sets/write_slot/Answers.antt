use Rattle.columns_sets.proofs.sets.SpanWrites.{span-this, span_rest, slot-written, slot-more}
use borrow.Author.Rules.{rules}
use Rattle.columns_sets.proofs.sets.write_slot.Goals as goal

pub delta-requires : goal.delta-requires
delta-requires c = search span-this

pub loop-j-preserved : goal.loop-j-preserved
loop-j-preserved c = (search rules, search rules, search rules, search span_rest, search slot-more)

pub returns : goal.returns
returns c = search (rules, slot-written)
