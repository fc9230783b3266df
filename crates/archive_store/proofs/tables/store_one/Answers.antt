use Rattle.archive_store.proofs.Chained.{unresolved-stored}
use Rattle.std.proofs.Common.{rules}
use Rattle.archive_store.proofs.tables.store_one.Goals as goal

pub returns : goal.returns
returns c = search (rules, unresolved-stored)
