use Rattle.columns.proofs.Handed.{handed-on}
use Rattle.columns_encode.proofs.Limited.{few_rows, limits-stop, limits-then}
use Rattle.columns_encode.proofs.early.early_rules.Goals as goal

pub input_rules-requires : goal.input_rules-requires
input_rules-requires c = search (few_rows, c.in_ok-limit_rules.was)

pub returns-in_err-limit_rules : goal.returns-in_err-limit_rules
returns-in_err-limit_rules c = handed-on _ c.from_residual.ensures (search (limits-stop, c.in_err-limit_rules.was))

pub returns : goal.returns
returns c = search (limits-then, c.in_ok-limit_rules.was)
