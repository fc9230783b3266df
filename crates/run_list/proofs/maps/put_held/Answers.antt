use Rattle.run_resolve.proofs.SurvivorColumns.{flags-room, count-flags}
use Rattle.run_resolve.proofs.OldNumbers.{flags-few, flags-end}
use Rattle.run_list.proofs.OverRows.{maps-written, maps-room, numbers-room}
use borrow.Author.Rules.{rules}
use Rattle.run_list.proofs.maps.put_held.Goals as goal

pub slice_bounds-f-end : goal.slice_bounds-f-end
slice_bounds-f-end c = search flags-room

pub slice_bounds-new_numbers-end : goal.slice_bounds-new_numbers-end
slice_bounds-new_numbers-end c = search count-flags

pub new_numbers-numbers-requires : goal.new_numbers-numbers-requires
new_numbers-numbers-requires c = (search flags-few, search flags-end)

pub slice_bounds-f-end-2 : goal.slice_bounds-f-end-2
slice_bounds-f-end-2 c = search flags-room

pub slice_bounds-put_rows-end : goal.slice_bounds-put_rows-end
slice_bounds-put_rows-end c = search count-flags

pub put_rows-requires-clause-flags_in_bounds : goal.put_rows-requires-clause-flags_in_bounds
put_rows-requires-clause-flags_in_bounds c = (search (rules, numbers-room), search flags-end)

pub put_rows-requires-clause-flags_in_bounds_2 : goal.put_rows-requires-clause-flags_in_bounds_2
put_rows-requires-clause-flags_in_bounds_2 c = search (rules, maps-room)

pub returns : goal.returns
returns c = search maps-written
