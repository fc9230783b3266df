use mathlib.Core.Path.{refl}
use Rattle.columns.proofs.Handed.{handed-on}
use Rattle.run.proofs.Views.{fresh-order}
use Rattle.run.proofs.OverHeld.{taken-valid, taken-order}
use Rattle.run_print.proofs.Chain.{too_long, untaken, then-resolved}
use borrow.Author.Rules.{rules}
use Rattle.run_print.proofs.listing.Goals as goal

pub returns-then-bytes-gt65536 : goal.returns-then-bytes-gt65536
returns-then-bytes-gt65536 c = search too_long

pub take-requires : goal.take-requires
take-requires c = search (rules, fresh-order)

pub list_held-requires : goal.list_held-requires
list_held-requires c = search (rules, taken-valid, taken-order, c.in_ok-take.was)

pub returns-in_err-take : goal.returns-in_err-take
returns-in_err-take c = search (untaken, c.in_err-take.was, handed-on _ c.from_residual.ensures refl)

pub returns : goal.returns
returns c = search (rules, then-resolved, c.in_ok-take.was)
