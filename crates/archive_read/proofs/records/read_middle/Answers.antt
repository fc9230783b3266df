use Rattle.archive_read.proofs.AtRecords.{starts-before, body-fits, no-middle1, no-middle2, no-middle3, no-middle4, is-middle, middle-after}
use Rattle.archive_read.proofs.records.read_middle.Goals as goal

pub returns-in_err-rows-clause-result_value : goal.returns-in_err-rows-clause-result_value
returns-in_err-rows-clause-result_value c = rw c.from_residual.ensures (search (no-middle1, c.in_err-rows.was))

pub bytes_of-requires : goal.bytes_of-requires
bytes_of-requires c = (search (starts-before, c.in_ok-rows.was), search (body-fits, c.in_ok-rows.was))

pub returns-then-not-rows_body-clause-result_value : goal.returns-then-not-rows_body-clause-result_value
returns-then-not-rows_body-clause-result_value c = search (no-middle2, c.in_ok-rows.was)

pub returns-in_err-unresolved-clause-result_value : goal.returns-in_err-unresolved-clause-result_value
returns-in_err-unresolved-clause-result_value c =
    rw c.from_residual-in_err-unresolved.ensures (search (no-middle3, c.in_ok-rows.was, c.in_err-unresolved.was))

pub bytes_of-requires-2 : goal.bytes_of-requires-2
bytes_of-requires-2 c = (search (starts-before, c.in_ok-unresolved.was), search (body-fits, c.in_ok-unresolved.was))

pub returns-in_err-count-clause-result_value : goal.returns-in_err-count-clause-result_value
returns-in_err-count-clause-result_value c =
    rw c.from_residual-in_err-count.ensures (search (no-middle4, c.in_ok-rows.was, c.in_ok-unresolved.was, c.in_err-count.was))

pub returns-clause-result_value : goal.returns-clause-result_value
returns-clause-result_value c = search (is-middle, c.in_ok-rows.was, c.in_ok-unresolved.was, c.in_ok-count.was)

pub returns-clause-after_middle : goal.returns-clause-after_middle
returns-clause-after_middle c = search (middle-after, c.in_ok-rows.was, c.in_ok-unresolved.was, c.in_ok-count.was)
