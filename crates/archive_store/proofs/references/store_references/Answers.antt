use Rattle.std.proofs.Common.{rules}
use Rattle.lists.proofs.Storing.{storing-begins}
use Rattle.archive_store.proofs.references.Rows.{some-start, row-ordered, row_inside, row_room, row_on, rows-done}
use Rattle.archive_store.proofs.references.store_references.Goals as goal

pub loop-i-init : goal.loop-i-init
loop-i-init c = (search some-start, search storing-begins)

pub store_row-p-requires-clause-spaces_len : goal.store_row-p-requires-clause-spaces_len
store_row-p-requires-clause-spaces_len c = (search rules, search rules, search row-ordered, search row_inside)

pub store_row-p-requires-clause-kinds_len_bound : goal.store_row-p-requires-clause-kinds_len_bound
store_row-p-requires-clause-kinds_len_bound c = (search rules, search row_room)

pub loop-i-preserved : goal.loop-i-preserved
loop-i-preserved c = let f = c.requires.cited in
    (search rules, row_on _ _ _ _ f _ c.loop-i-test.true _ _ c.index-from.ensures c.index-to.ensures c.loop-i.invariant.1 _ _ c.store_row-p.ensures.out_after c.store_row-p.ensures.value)

pub returns : goal.returns
returns c = search rows-done
