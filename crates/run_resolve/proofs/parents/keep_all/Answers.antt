-- The table of the kept lists is in form.
use mathlib.Core.Path.{◌≡◌}
use native.Mathlib.Omega.{arith}
use lib.ListN.{length}
use Rattle.run_state.proofs.ColumnTurns.{table-count, numbers-count}
use Rattle.run_resolve.proofs.sheet.KeptColumns.{front-count}
use Rattle.run_resolve.proofs.sheet.Asking.{form-here}
use Rattle.run_resolve.proofs.parents.KeptLists.{table-room, numbers-held, kept-edges}
use borrow.Author.Rules.{rules}
use Rattle.run_resolve.proofs.parents.keep_all.Goals as goal

pub slice_bounds-put_slots-end : goal.slice_bounds-put_slots-end
slice_bounds-put_slots-end c = search (rules, front-count)

pub slice_bounds-put_slots-end-2 : goal.slice_bounds-put_slots-end-2
slice_bounds-put_slots-end-2 c = search (rules, table-count)

pub slice_bounds-put_slots-end-3 : goal.slice_bounds-put_slots-end-3
slice_bounds-put_slots-end-3 c = search (rules, numbers-count)

pub put_slots-requires-clause-offsets_value : goal.put_slots-requires-clause-offsets_value
put_slots-requires-clause-offsets_value c = search form-here

pub put_slots-requires-clause-flags_in_bounds : goal.put_slots-requires-clause-flags_in_bounds
put_slots-requires-clause-flags_in_bounds c = (search table-room, search numbers-held)

pub returns : goal.returns
returns c = let room : length c.put_slots.new.all ≡ 4096 = omega arith in search kept-edges
