use mathlib.Core.Path.{◌∙◌}
use Rattle.columns_slots.proofs.delta.Signs.{same-is}
use Rattle.columns_slots.proofs.delta.magnitude.Goals as goal

pub returns : goal.returns
returns c = c.unsigned_abs.ensures.value ∙ same-is _ c.ranges.delta
