use Rattle.run_rules.proofs.parts.SetOrder.{offsets-count, deltas-count}
use Rattle.run_rules.proofs.parts.sets.loaded_rules.Goals as goal

pub slice_bounds-set_rules-end : goal.slice_bounds-set_rules-end
slice_bounds-set_rules-end c = search offsets-count

pub slice_bounds-set_rules-end-2 : goal.slice_bounds-set_rules-end-2
slice_bounds-set_rules-end-2 c = search deltas-count
