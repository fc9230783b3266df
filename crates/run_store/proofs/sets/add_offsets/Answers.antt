use Rattle.run_store.proofs.sets.SetTurns.{table-front, table-room}
use borrow.Author.Rules.{rules}
use Rattle.run_store.proofs.sets.add_offsets.Goals as goal

pub slice_bounds-put_offsets-end : goal.slice_bounds-put_offsets-end
slice_bounds-put_offsets-end c = search table-front

pub put_offsets-requires : goal.put_offsets-requires
put_offsets-requires c = (search table-room, (search rules, search rules))
