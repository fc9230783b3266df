use Rattle.columns.proofs.Checks.{many-rows, long-column, short-slice, in_limits}
use Rattle.columns_slots.proofs.sets.limit_rules.Goals as goal

pub returns-then-rows-gt1024 : goal.returns-then-rows-gt1024
returns-then-rows-gt1024 c = search many-rows

pub returns-then-over : goal.returns-then-over
returns-then-over c = search long-column

pub returns-then-short : goal.returns-then-short
returns-then-short c = search short-slice

pub returns : goal.returns
returns c = search in_limits
