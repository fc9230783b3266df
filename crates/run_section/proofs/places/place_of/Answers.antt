use Rattle.run_section.proofs.Placing.{above-middle, up-to-middle, at_most, middle-fits, byte_fits, middle-there}
use borrow.Author.Rules.{rules}
use Rattle.run_section.proofs.places.place_of.Goals as goal

pub loop-low-init : goal.loop-low-init
loop-low-init c = (search rules, search at_most, search rules)

pub overflow_mul-middle : goal.overflow_mul-middle
overflow_mul-middle c = search (rules, middle-fits)

pub offset_bounds-table-middle : goal.offset_bounds-table-middle
offset_bounds-table-middle c = search (rules, byte_fits)

pub bounds-table-middle : goal.bounds-table-middle
bounds-table-middle c = search (rules, middle-there)

pub loop-low-preserved-then-table-middle : goal.loop-low-preserved-then-table-middle
loop-low-preserved-then-table-middle c = (search (rules, above-middle), search rules, search rules)

pub loop-low-preserved : goal.loop-low-preserved
loop-low-preserved c = (search rules, search (rules, up-to-middle), search rules)
