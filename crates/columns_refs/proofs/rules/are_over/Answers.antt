use Rattle.columns_refs.proofs.Ruled.{four-over, last-over}
use Rattle.columns_refs.proofs.rules.are_over.Goals as goal

pub returns-then-is_any_over : goal.returns-then-is_any_over
returns-then-is_any_over c = search four-over

pub returns : goal.returns
returns c = search last-over
