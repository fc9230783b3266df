use Rattle.archive_store.proofs.records.Whole.{roots-record}
use Rattle.std.proofs.Common.{rules}
use Rattle.archive_store.proofs.records.record_roots.Goals as goal

pub returns-clause-out_after : goal.returns-clause-out_after
returns-clause-out_after c = search (rules, roots-record)
