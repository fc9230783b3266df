use Rattle.columns_sets.proofs.sets.SetWrites.{Writing}
use Rattle.columns_sets.proofs.sets.write_deltas.Given as goal

abbrev pub invariant-loop-q : goal.invariant-loop-q
invariant-loop-q l = Writing l.first l.rows l.from l.n l.offsets l.targets l.base l.q l.out l.initial.out
