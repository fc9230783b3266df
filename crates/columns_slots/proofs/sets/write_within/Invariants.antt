use Rattle.columns_slots.proofs.sets.Writes.{Writing}
use Rattle.columns_slots.proofs.sets.write_within.Given as goal

abbrev pub invariant-loop-i : goal.invariant-loop-i
invariant-loop-i l = Writing l.event l.deltas l.from l.to l.initial.out l.at l.out l.past l.i
