use Rattle.columns_encode.proofs.Limited.{four-over, fifth-over, labels-over}
use Rattle.columns_encode.proofs.early.are_columns_over.Goals as goal

pub returns-then-is_any_over : goal.returns-then-is_any_over
returns-then-is_any_over c = search four-over

pub returns-then-kinds-gt4096 : goal.returns-then-kinds-gt4096
returns-then-kinds-gt4096 c = search fifth-over

pub returns : goal.returns
returns c = search labels-over
