use Rattle.columns_slots.proofs.sets.Writes.{target-put, this-named, targets-done}
use Rattle.columns_slots.proofs.sets.write_targets.Goals as goal

pub target-requires : goal.target-requires
target-requires c = search this-named

pub loop-i-preserved : goal.loop-i-preserved
loop-i-preserved c = target-put _ _ _ _ _ _ _ _ _ c.loop-i.invariant c.loop-i-test.true c.requires.from_le_to.1.0
    (record { sfits = c.target-arg-1.given }) _ c.target.ensures _ c.put.ensures

pub returns-clause-out_after : goal.returns-clause-out_after
returns-clause-out_after c = search targets-done
