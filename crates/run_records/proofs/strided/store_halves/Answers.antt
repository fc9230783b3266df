use native.Mathlib.Nat.{sub-zero}
use Rattle.run_records.proofs.Columns.{column-starts, number-there, place-fits, byte_fits, next_fits, number_small, column-on, halves-done, half-next}
use borrow.Author.Rules.{rules}
use Rattle.run_records.proofs.strided.store_halves.Goals as goal

pub loop-i-init : goal.loop-i-init
loop-i-init c = (search rules, search rules, search rules, search (rules, column-starts), rw sub-zero)

pub overflow_add-k : goal.overflow_add-k
overflow_add-k c = search (rules, place-fits)

pub offset_bounds-table-k : goal.offset_bounds-table-k
offset_bounds-table-k c = search (rules, byte_fits)

pub bounds-table-k : goal.bounds-table-k
bounds-table-k c = search (rules, number-there)

pub store_u32-requires : goal.store_u32-requires
store_u32-requires c = (search rules, search (rules, number_small))

pub overflow_add-k-in-loop-i : goal.overflow_add-k-in-loop-i
overflow_add-k-in-loop-i c = search (rules, next_fits)

pub loop-i-preserved : goal.loop-i-preserved
loop-i-preserved c = (search rules, search rules, search rules, search (rules, column-on), search (rules, half-next))

pub returns : goal.returns
returns c = search (rules, halves-done)
