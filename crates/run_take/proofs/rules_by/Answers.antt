use Rattle.columns.proofs.Handed.{handed-on}
use Rattle.run_take.proofs.Rulings.{not-archive, sums-known, then-held}
use borrow.Author.Rules.{rules}
use Rattle.run_take.proofs.rules_by.Goals as goal

pub returns-in_err-t : goal.returns-in_err-t
returns-in_err-t c = handed-on _ c.from_residual.ensures (search (not-archive, c.in_err-t.was))

pub hold_rules-requires : goal.hold_rules-requires
hold_rules-requires c = (search rules, (search rules, search (sums-known, c.in_ok-t.was)))

pub returns : goal.returns
returns c = search (then-held, c.in_ok-t.was)
