use borrow.Author.Rules.{rules}
use Rattle.columns_slots.proofs.sets.Writes.{target-put, this-named, targets-done}
use Rattle.columns_slots.proofs.sets.write_within.Goals as goal

pub target-requires : goal.target-requires
target-requires c = search this-named

pub loop-i-preserved : goal.loop-i-preserved
loop-i-preserved c = search (rules, target-put)

pub returns-clause-out_after : goal.returns-clause-out_after
returns-clause-out_after c = search targets-done
