use mathlib.Core.Path.{refl}
use Rattle.columns.proofs.Handed.{handed-on}
use Rattle.run_section.proofs.Measuring.{measured-broken, measured-kept}
use borrow.Author.Rules.{rules}
use Rattle.run_section.proofs.measures.measure_section.Goals as goal

pub returns-in_err-section_rules : goal.returns-in_err-section_rules
returns-in_err-section_rules c = search (rules, measured-broken, c.in_err-section_rules.was, handed-on _ c.from_residual.ensures refl)

pub returns : goal.returns
returns c = search (rules, measured-kept, c.in_ok-section_rules.was)
