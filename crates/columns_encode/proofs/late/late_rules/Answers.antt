use mathlib.Core.Path.{refl, sym, ◌∙◌}
use Rattle.columns.proofs.Handed.{handed-on}
use Rattle.columns_encode.proofs.Later.{late-stops, late-then, late-edges, never-kept}
use borrow.Author.Rules.{rules}
use Rattle.columns_encode.proofs.late.late_rules.Goals as goal

pub arranged_rules-requires-clause-edges : goal.arranged_rules-requires-clause-edges
arranged_rules-requires-clause-edges c = search (late-edges, c.in_ok-inbound_rules.was)

pub arranged_rules-requires-clause-in_bounds : goal.arranged_rules-requires-clause-in_bounds
arranged_rules-requires-clause-in_bounds c = (search rules, search rules)

pub returns-in_err-inbound_rules-clause-value : goal.returns-in_err-inbound_rules-clause-value
returns-in_err-inbound_rules-clause-value c = handed-on _ c.from_residual.ensures (search (late-stops, c.in_err-inbound_rules.was))

pub returns-in_err-inbound_rules-clause-arranged : goal.returns-in_err-inbound_rules-clause-arranged
returns-in_err-inbound_rules-clause-arranged c = λ z. never-kept (sym (handed-on _ c.from_residual.ensures refl) ∙ z)

pub returns-clause-value : goal.returns-clause-value
returns-clause-value c = search (late-then, c.in_ok-inbound_rules.was)

pub returns-clause-arranged : goal.returns-clause-arranged
returns-clause-arranged c = λ z. search rules
