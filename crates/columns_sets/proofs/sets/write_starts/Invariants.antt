use Rattle.columns_sets.proofs.sets.StartWrites.{Starting}
use Rattle.columns_sets.proofs.sets.write_starts.Given as goal

abbrev pub invariant-loop-s : goal.invariant-loop-s
invariant-loop-s l = Starting l.rows l.from l.n l.offsets l.targets l.base l.s l.out l.initial.out
