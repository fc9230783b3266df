use Rattle.columns.proofs.Handed.{handed-on}
use Rattle.columns_refs.proofs.Ruled.{limits-stop, limits-then}
use Rattle.columns_refs.proofs.rules.resolve_rules.Goals as goal

pub returns-in_err-limit_rules : goal.returns-in_err-limit_rules
returns-in_err-limit_rules c = handed-on _ c.from_residual.ensures (search (limits-stop, c.in_err-limit_rules.was))

pub returns : goal.returns
returns c = search (limits-then, c.in_ok-limit_rules.was)
