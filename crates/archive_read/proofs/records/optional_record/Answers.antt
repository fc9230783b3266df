use Rattle.archive_read.proofs.AtRecords.{starts-before, body-fits, no_cover, bad-cover1, bad-cover2, has-cover, cover_after}
use Rattle.archive_read.proofs.records.optional_record.Goals as goal

pub returns-then-kind_at-ne6-clause-result_value : goal.returns-then-kind_at-ne6-clause-result_value
returns-then-kind_at-ne6-clause-result_value c = search no_cover

pub returns-in_err-part-clause-result_value : goal.returns-in_err-part-clause-result_value
returns-in_err-part-clause-result_value c = rw c.from_residual.ensures (search (bad-cover1, c.in_err-part.was))

pub bytes_of-requires : goal.bytes_of-requires
bytes_of-requires c = (search (starts-before, c.in_ok-part.was), search (body-fits, c.in_ok-part.was))

pub returns-in_err-cover-clause-result_value : goal.returns-in_err-cover-clause-result_value
returns-in_err-cover-clause-result_value c = rw c.from_residual-in_err-cover.ensures (search (bad-cover2, c.in_ok-part.was, c.in_err-cover.was))

pub returns-clause-result_value : goal.returns-clause-result_value
returns-clause-result_value c = search (has-cover, c.in_ok-part.was, c.in_ok-cover.was)

pub returns-clause-after_optional : goal.returns-clause-after_optional
returns-clause-after_optional c = search (cover_after, c.in_ok-part.was, c.in_ok-cover.was)
