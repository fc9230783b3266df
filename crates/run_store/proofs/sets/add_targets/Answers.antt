use Rattle.run_store.proofs.sets.SetTurns.{rows-front, numbers-front}
use Rattle.run_store.proofs.sets.add_targets.Goals as goal

pub slice_bounds-put_targets-end : goal.slice_bounds-put_targets-end
slice_bounds-put_targets-end c = search rows-front

pub slice_bounds-put_targets-end-2 : goal.slice_bounds-put_targets-end-2
slice_bounds-put_targets-end-2 c = search numbers-front
