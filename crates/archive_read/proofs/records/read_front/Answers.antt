use Rattle.archive_read.proofs.AtRecords.{starts-before, body-fits, no-front1, no-front2, no-front3, no-front4, is_front, front-after}
use Rattle.archive_read.proofs.records.read_front.Goals as goal

pub returns-in_err-file-clause-result_value : goal.returns-in_err-file-clause-result_value
returns-in_err-file-clause-result_value c = rw c.from_residual.ensures (search (no-front1, c.in_err-file.was))

pub bytes_of-requires : goal.bytes_of-requires
bytes_of-requires c = (search (starts-before, c.in_ok-file.was), search (body-fits, c.in_ok-file.was))

pub returns-in_err-head-clause-result_value : goal.returns-in_err-head-clause-result_value
returns-in_err-head-clause-result_value c = rw c.from_residual-in_err-head.ensures (search (no-front2, c.in_ok-file.was, c.in_err-head.was))

pub returns-in_err-sets-clause-result_value : goal.returns-in_err-sets-clause-result_value
returns-in_err-sets-clause-result_value c =
    rw c.from_residual-in_err-sets.ensures (search (no-front3, c.in_ok-file.was, c.in_ok-head.was, c.in_err-sets.was))

pub bytes_of-requires-2 : goal.bytes_of-requires-2
bytes_of-requires-2 c = (search (starts-before, c.in_ok-sets.was), search (body-fits, c.in_ok-sets.was))

pub returns-in_err-edges-clause-result_value : goal.returns-in_err-edges-clause-result_value
returns-in_err-edges-clause-result_value c =
    rw c.from_residual-in_err-edges.ensures (search (no-front4, c.in_ok-file.was, c.in_ok-head.was, c.in_ok-sets.was, c.in_err-edges.was))

pub returns-clause-result_value : goal.returns-clause-result_value
returns-clause-result_value c = is_front _ _ _ c.find_body.ensures.result_value _ c.in_ok-file.was c.bytes_of.ensures c.head_body.ensures.result_value _
    c.in_ok-head.was c.find_body-2.ensures.result_value _ c.in_ok-sets.was c.bytes_of-2.ensures c.edges_body.ensures.result_value c.in_ok-edges.was

pub returns-clause-after_front : goal.returns-clause-after_front
returns-clause-after_front c = front-after _ _ _ c.find_body.ensures.inside c.in_ok-file.was c.bytes_of.ensures _ c.head_body.ensures.head_inside
    c.in_ok-head.was _ c.find_body-2.ensures.inside c.in_ok-sets.was c.bytes_of-2.ensures _
    c.edges_body.ensures.edges_inside c.in_ok-edges.was
