use Rattle.run_list.proofs.OneSet.{lists-climb, lists-there, in_reach, offsets-count, deltas-there, deltas-count, set_room, set-shown}
use borrow.Author.Rules.{rules}
use Rattle.run_list.proofs.files.put_lists.Goals as goal

pub write_lists-m-requires-clause-offsets_value : goal.write_lists-m-requires-clause-offsets_value
write_lists-m-requires-clause-offsets_value c = (search (rules, lists-climb), search (rules, lists-there))

pub write_lists-m-requires-clause-n_bound : goal.write_lists-m-requires-clause-n_bound
write_lists-m-requires-clause-n_bound c = (search rules, search (rules, in_reach))

pub slice_bounds-put_set-end : goal.slice_bounds-put_set-end
slice_bounds-put_set-end c = search (rules, offsets-count)

pub slice_bounds-deltas-end : goal.slice_bounds-deltas-end
slice_bounds-deltas-end c = search (rules, deltas-there)

pub slice_bounds-put_set-end-2 : goal.slice_bounds-put_set-end-2
slice_bounds-put_set-end-2 c = search (rules, deltas-count)

pub put_set-requires : goal.put_set-requires
put_set-requires c = search (rules, set_room)

pub returns : goal.returns
returns c = search (rules, set-shown)
