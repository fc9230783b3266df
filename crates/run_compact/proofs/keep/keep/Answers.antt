use Rattle.std.proofs.Common.{rules}
use Rattle.run_compact.proofs.KeepTurns.{counted, all-kept, one-gone, one_kept}
use Rattle.run_compact.proofs.keep.keep.Goals.{then-survives, else-survives}
use Rattle.run_compact.proofs.keep.keep.Goals as goal

pub loop-i-init : goal.loop-i-init
loop-i-init g c = (search rules, c.told-column, c.told-column, search rules)

pub loop-i-preserved : goal.loop-i-preserved
loop-i-preserved g c = elim c.if-survives.branch [
  | then-survives w ↦ rw (w.column-is, w.n-is) (search rules, search rules, search rules, search one_kept)
  | else-survives w ↦ rw (w.column-is, w.n-is) (search rules, search rules, search rules, search one-gone)
]

pub returns : goal.returns
returns g c = (search counted, search all-kept, search rules)
