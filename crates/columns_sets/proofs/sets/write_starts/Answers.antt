use Rattle.columns_sets.proofs.sets.SetWrites.{base-in}
use Rattle.columns_sets.proofs.sets.StartWrites.{starting-begins, starting-done, starting-in, starting-low, starting-on}
use Rattle.columns_sets.proofs.sets.write_starts.Goals as goal

pub bounds-offsets-from : goal.bounds-offsets-from
bounds-offsets-from c = search base-in

pub loop-s-init : goal.loop-s-init
loop-s-init c = search starting-begins

pub bounds-offsets-from-in-loop-s : goal.bounds-offsets-from-in-loop-s
bounds-offsets-from-in-loop-s c = search starting-in

pub overflow_sub-out : goal.overflow_sub-out
overflow_sub-out c = search starting-low

pub loop-s-preserved : goal.loop-s-preserved
loop-s-preserved c = search starting-on

pub returns : goal.returns
returns c = search starting-done
