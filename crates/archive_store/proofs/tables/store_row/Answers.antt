use Rattle.archive_store.proofs.Chained.{row-stored}
use Rattle.std.proofs.Common.{rules}
use Rattle.archive_store.proofs.tables.store_row.Goals as goal

pub returns : goal.returns
returns c = search (rules, row-stored)
