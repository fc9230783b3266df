use Rattle.archive_read.proofs.AtRecords.{no-rest1, no-rest2, is-rest, rest-after}
use Rattle.archive_read.proofs.records.read_rest.Goals as goal

pub returns-in_err-middle-clause-result_value : goal.returns-in_err-middle-clause-result_value
returns-in_err-middle-clause-result_value c = rw c.from_residual.ensures (search (no-rest1, c.in_err-middle.was))

pub returns-in_err-tail-clause-result_value : goal.returns-in_err-tail-clause-result_value
returns-in_err-tail-clause-result_value c = rw c.from_residual-in_err-tail.ensures (search (no-rest2, c.in_ok-middle.was, c.in_err-tail.was))

pub returns-clause-result_value : goal.returns-clause-result_value
returns-clause-result_value c = search (is-rest, c.in_ok-middle.was, c.in_ok-tail.was)

pub returns-clause-after_rest : goal.returns-clause-after_rest
returns-clause-after_rest c = search (rest-after, c.in_ok-middle.was, c.in_ok-tail.was)
