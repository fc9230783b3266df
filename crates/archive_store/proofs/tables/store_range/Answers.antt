use Rattle.archive_store.proofs.Chained.{range-stored}
use Rattle.std.proofs.Common.{rules}
use Rattle.archive_store.proofs.tables.store_range.Goals as goal

pub returns : goal.returns
returns c = search (rules, range-stored)
