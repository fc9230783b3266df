use mathlib.Core.Path.{◌∙◌}
use Rattle.columns.proofs.Checks.{over-front, over-back}
use Rattle.columns_slots.proofs.sets.is_any_over.Goals as goal

pub returns-then-is_over : goal.returns-then-is_over
returns-then-is_over c = c.if-is_over.true ∙ search over-front

pub returns-else-is_over : goal.returns-else-is_over
returns-else-is_over c = search over-back
