use Rattle.archive_read.proofs.AtRecords.{no-file1, no-file2, is-file, file-after}
use Rattle.archive_read.proofs.records.file_at.Goals as goal

pub returns-in_err-front-clause-result_value : goal.returns-in_err-front-clause-result_value
returns-in_err-front-clause-result_value c = rw c.from_residual.ensures (search (no-file1, c.in_err-front.was))

pub returns-in_err-rest-clause-result_value : goal.returns-in_err-rest-clause-result_value
returns-in_err-rest-clause-result_value c = rw c.from_residual-in_err-rest.ensures (search (no-file2, c.in_ok-front.was, c.in_err-rest.was))

pub returns-clause-result_value : goal.returns-clause-result_value
returns-clause-result_value c = search (is-file, c.in_ok-front.was, c.in_ok-rest.was)

pub returns-clause-after_file : goal.returns-clause-after_file
returns-clause-after_file c = search (file-after, c.in_ok-front.was, c.in_ok-rest.was)
