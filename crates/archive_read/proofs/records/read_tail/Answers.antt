use Rattle.archive_read.proofs.AtRecords.{no-tail, no-tail2, is-tail, tail-after, tail-end-fits}
use Rattle.archive_read.proofs.records.read_tail.Goals as goal

pub returns-in_err-tail-clause-result_value : goal.returns-in_err-tail-clause-result_value
returns-in_err-tail-clause-result_value c = rw c.from_residual.ensures (search (no-tail, c.in_err-tail.was))

pub cited_record-requires : goal.cited_record-requires
cited_record-requires c = search (tail-end-fits, c.in_ok-tail.was)

pub returns-in_err-cites-clause-result_value : goal.returns-in_err-cites-clause-result_value
returns-in_err-cites-clause-result_value c = rw c.from_residual-in_err-cites.ensures (search (no-tail2, c.in_ok-tail.was, c.in_err-cites.was))

pub returns-clause-result_value : goal.returns-clause-result_value
returns-clause-result_value c = search (is-tail, c.in_ok-tail.was, c.in_ok-cites.was)

pub returns-clause-after_tail : goal.returns-clause-after_tail
returns-clause-after_tail c = search (tail-after, c.in_ok-tail.was, c.in_ok-cites.was)
