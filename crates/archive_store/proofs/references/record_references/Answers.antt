use Rattle.archive_store.proofs.references.Rows.{some-start, references-room, references-record}
use Rattle.std.proofs.Common.{rules}
use Rattle.archive_store.proofs.references.record_references.Goals as goal

pub overflow_sub-n : goal.overflow_sub-n
overflow_sub-n c = search some-start

pub store_references-requires-clause-kinds_len_bound : goal.store_references-requires-clause-kinds_len_bound
store_references-requires-clause-kinds_len_bound c = (search rules, search (rules, references-room))

pub returns-clause-out_after : goal.returns-clause-out_after
returns-clause-out_after c = search (rules, references-record)
