use Rattle.run_section.proofs.Laying.{column-none, number_put, place-there, place-fits, next_fits, next_place, all-put}
use borrow.Author.Rules.{rules}
use Rattle.run_section.proofs.tables.put_bytes.Goals as goal

pub loop-i-init : goal.loop-i-init
loop-i-init c = (search rules, search rules, search (rules, column-none))

pub offset_bounds-out-p : goal.offset_bounds-out-p
offset_bounds-out-p c = search (rules, place-fits)

pub bounds-out-p : goal.bounds-out-p
bounds-out-p c = search (rules, place-there)

pub overflow_add-p : goal.overflow_add-p
overflow_add-p c = search (rules, next_fits)

pub loop-i-preserved : goal.loop-i-preserved
loop-i-preserved c = (search rules, search (rules, next_place), search (rules, number_put))

pub returns : goal.returns
returns c = search (rules, all-put)
