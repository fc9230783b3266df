use Rattle.archive_read.proofs.bodies.AtTables.{rows-length, rows-flags, rows_inside}
use Rattle.archive_read.proofs.bodies.rows_body.Goals as goal

pub returns-then-b-m-clause-result_value : goal.returns-then-b-m-clause-result_value
returns-then-b-m-clause-result_value c = search rows-length

pub returns-then-b-m-clause-rows_inside : goal.returns-then-b-m-clause-rows_inside
returns-then-b-m-clause-rows_inside c = tt

pub returns-clause-result_value : goal.returns-clause-result_value
returns-clause-result_value c = search rows-flags

pub returns-clause-rows_inside : goal.returns-clause-rows_inside
returns-clause-rows_inside c = search rows_inside
