use mathlib.Core.Path.{refl}
use Rattle.columns.proofs.Handed.{handed-on}
use Rattle.run_print.proofs.Chain.{unresolved, list-ready, then-listed}
use borrow.Author.Rules.{rules}
use Rattle.run_print.proofs.list_held.Goals as goal

pub list-requires : goal.list-requires
list-requires c = search (rules, list-ready, c.in_ok-s.was)

pub returns-in_err-s : goal.returns-in_err-s
returns-in_err-s c = search (unresolved, c.in_err-s.was, handed-on _ c.from_residual.ensures refl)

pub returns : goal.returns
returns c = search (then-listed, c.in_ok-s.was)
