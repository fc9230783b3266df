use Rattle.columns_encode.proofs.Limited.{many-rows, many-records, long-column, short-slice, in_limits}
use Rattle.columns_encode.proofs.early.limit_rules.Goals as goal

pub returns-then-rows-gt1024 : goal.returns-then-rows-gt1024
returns-then-rows-gt1024 c = search many-rows

pub returns-then-records-gt1024 : goal.returns-then-records-gt1024
returns-then-records-gt1024 c = search many-records

pub returns-then-over : goal.returns-then-over
returns-then-over c = search long-column

pub returns-then-tight : goal.returns-then-tight
returns-then-tight c = search short-slice

pub returns : goal.returns
returns c = search in_limits
