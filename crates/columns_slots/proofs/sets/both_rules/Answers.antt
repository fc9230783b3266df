use Rattle.columns.proofs.Handed.{handed-on}
use Rattle.columns.proofs.Checks.{both-kept, both-broken}
use Rattle.columns_slots.proofs.sets.both_rules.Goals as goal

pub returns : goal.returns
returns c = search (both-kept, c.in_ok-rules.was)

pub returns-in_err-rules : goal.returns-in_err-rules
returns-in_err-rules c = handed-on _ c.from_residual.ensures (search (both-broken, c.in_err-rules.was))
