-- The parents are the slot's, and the list that was made is one more of the table.
use borrow.Author.Rules.{rules}
use Rattle.columns.specs.Limits.{kinds}
use Rattle.run_renumber.proofs.Slots.{read-ordered, read-within, kind-below, built-table, built-room, built-filled, slot-put, slot-none}
use Rattle.run_renumber.proofs.add_slot.Goals as goal

pub new_list-requires-clause-base_in_bounds : goal.new_list-requires-clause-base_in_bounds
new_list-requires-clause-base_in_bounds c = (search built-filled, (search read-ordered, search read-within))

pub new_list-requires-clause-kind_lt_kinds : goal.new_list-requires-clause-kind_lt_kinds
new_list-requires-clause-kind_lt_kinds c = (search kind-below, (search built-room, search rules))

pub new_list-requires-clause-offs_value : goal.new_list-requires-clause-offs_value
new_list-requires-clause-offs_value c = search built-table

pub returns : goal.returns
returns c = let asked = c.requires in
    slot-put kinds _ _ _ _ asked.offsets_value asked.s_bound.0 _ _ c.index-a.ensures c.index-b.ensures
    _ _ _ _ _ _ _ asked.built _ _ c.new_list.ensures _ c.in_ok-m.was asked.s_bound.1.0

pub returns-in_err-m : goal.returns-in_err-m
returns-in_err-m c = rw c.from_residual.ensures (search (slot-none, c.in_err-m.was))
