use Rattle.archive_read.proofs.AtRecords.{starts-before, body-fits, no-covered1, no-covered2, no-covered3, is-covered, covered-plain, covered-after}
use Rattle.archive_read.proofs.records.read_covered.Goals as goal

pub returns-in_err-roots-clause-result_value : goal.returns-in_err-roots-clause-result_value
returns-in_err-roots-clause-result_value c = rw c.from_residual.ensures (search (no-covered1, c.in_err-roots.was))

pub bytes_of-requires : goal.bytes_of-requires
bytes_of-requires c = (search (starts-before, c.in_ok-roots.was), search (body-fits, c.in_ok-roots.was))

pub returns-in_err-count-clause-result_value : goal.returns-in_err-count-clause-result_value
returns-in_err-count-clause-result_value c = rw c.from_residual-in_err-count.ensures (search (no-covered2, c.in_ok-roots.was, c.in_err-count.was))

pub optional_record-requires : goal.optional_record-requires
optional_record-requires c = search (body-fits, c.in_ok-roots.was)

pub returns-in_err-cover-clause-result_value : goal.returns-in_err-cover-clause-result_value
returns-in_err-cover-clause-result_value c =
    rw c.from_residual-in_err-cover.ensures (search (no-covered3, c.in_ok-roots.was, c.in_ok-count.was, c.in_err-cover.was))

pub returns-clause-result_value : goal.returns-clause-result_value
returns-clause-result_value c = search (is-covered, c.in_ok-roots.was, c.in_ok-count.was, c.in_ok-cover.was)

pub returns-clause-after_tail : goal.returns-clause-after_tail
returns-clause-after_tail c = (search (covered-after, c.in_ok-roots.was, c.in_ok-count.was, c.in_ok-cover.was), search covered-plain)
