use borrow.Author.Rules.{rules}
use Rattle.lists.proofs.Storing.{storing-begins}
use Rattle.columns_refs.proofs.Slots.{slot-end, list-room, start-on, list_on, starts-done, lists-done, lists-count}
use Rattle.columns_refs.proofs.parents.write_lists.Goals as goal

pub loop-q-init : goal.loop-q-init
loop-q-init c = (search rules, search storing-begins, search storing-begins)

pub write_slot-p-requires-clause-to_in_bounds : goal.write_slot-p-requires-clause-to_in_bounds
write_slot-p-requires-clause-to_in_bounds c = search slot-end

pub write_slot-p-requires-clause-numbers_in_bounds : goal.write_slot-p-requires-clause-numbers_in_bounds
write_slot-p-requires-clause-numbers_in_bounds c = search list-room

pub loop-q-preserved : goal.loop-q-preserved
loop-q-preserved c = let form = c.requires.rows_form in
    let inv = c.loop-q.invariant in
    let test = c.loop-q-test.true in
    let from = c.index-from.ensures in
    let to = c.index-to.ensures in
    let kind = c.narrow-kind.ensures in
    let w = c.write_slot-p.ensures in
    (search rules, start-on _ _ _ form _ _ _ test from to _ kind _ _ inv.1 _ w.value, list_on _ _ _ form _ _ _ test from to _ kind inv.2 _ _ w.out_after w.value)

pub returns-clause-value : goal.returns-clause-value
returns-clause-value c = search lists-count

pub returns-clause-offsets_after : goal.returns-clause-offsets_after
returns-clause-offsets_after c = search starts-done

pub returns-clause-out_after : goal.returns-clause-out_after
returns-clause-out_after c = search lists-done
