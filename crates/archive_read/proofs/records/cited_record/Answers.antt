use Rattle.archive_read.proofs.AtRecords.{starts-before, body-fits, no-cites, bad-cites1, bad-cites2, has-cites, cites_after}
use Rattle.archive_read.proofs.records.cited_record.Goals as goal

pub returns-then-kind_at-ne7-clause-result_value : goal.returns-then-kind_at-ne7-clause-result_value
returns-then-kind_at-ne7-clause-result_value c = search no-cites

pub returns-in_err-part-clause-result_value : goal.returns-in_err-part-clause-result_value
returns-in_err-part-clause-result_value c = rw c.from_residual.ensures (search (bad-cites1, c.in_err-part.was))

pub bytes_of-requires : goal.bytes_of-requires
bytes_of-requires c = (search (starts-before, c.in_ok-part.was), search (body-fits, c.in_ok-part.was))

pub returns-in_err-count-clause-result_value : goal.returns-in_err-count-clause-result_value
returns-in_err-count-clause-result_value c = rw c.from_residual-in_err-count.ensures (search (bad-cites2, c.in_ok-part.was, c.in_err-count.was))

pub returns-clause-result_value : goal.returns-clause-result_value
returns-clause-result_value c = search (has-cites, c.in_ok-part.was, c.in_ok-count.was)

pub returns-clause-after_cites : goal.returns-clause-after_cites
returns-clause-after_cites c = search (cites_after, c.in_ok-part.was, c.in_ok-count.was)
