use Rattle.lists.proofs.Storing.{storing-begins}
use Rattle.columns_refs.proofs.Slots.{slot-room, slot-on, slot-done, slot_next}
use Rattle.columns_refs.proofs.parents.write_slot.Goals as goal

pub loop-i-init : goal.loop-i-init
loop-i-init c = search storing-begins

pub write_parent-p-requires : goal.write_parent-p-requires
write_parent-p-requires c = search slot-room

pub loop-i-preserved : goal.loop-i-preserved
loop-i-preserved c = let x = c.reference_at-x.ensures in
    let w = c.write_parent-p.ensures in
    slot-on _ _ _ _ c.loop-i.invariant c.loop-i-test.true
    c.requires.to_in_bounds _ x _ _ w.out_after w.value

pub returns-clause-out_after : goal.returns-clause-out_after
returns-clause-out_after c = search slot-done

pub returns-clause-value : goal.returns-clause-value
returns-clause-value c = search slot_next
