use Rattle.columns.proofs.Handed.{handed-on}
use Rattle.columns_encode.proofs.Limited.{file-stops, then-records}
use Rattle.columns_encode.proofs.early.input_rules.Goals as goal

pub returns-in_err-file_rules : goal.returns-in_err-file_rules
returns-in_err-file_rules c = handed-on _ c.from_residual.ensures (search (file-stops, c.in_err-file_rules.was))

pub returns : goal.returns
returns c = search (then-records, c.in_ok-file_rules.was)
