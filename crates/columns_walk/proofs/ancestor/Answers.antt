use mathlib.Core.Path.{refl}
use Rattle.columns.proofs.Handed.{handed-on}
use Rattle.columns_walk.proofs.Verdicts.{ancestor-refused, ancestor-found}
use Rattle.columns_walk.proofs.ancestor.Goals as goal

pub returns-in_err-read : goal.returns-in_err-read
returns-in_err-read c = rw (handed-on _ c.from_residual.ensures refl) (search (ancestor-refused, c.in_err-read.was))

pub returns : goal.returns
returns c = search (ancestor-found, c.in_ok-read.was)
