use Rattle.archive_store.proofs.records.Whole.{cover-record}
use Rattle.std.proofs.Common.{rules}
use Rattle.archive_store.proofs.records.record_cover.Goals as goal

pub returns-clause-out_after : goal.returns-clause-out_after
returns-clause-out_after c = search (rules, cover-record)
