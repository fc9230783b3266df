use Rattle.archive_store.proofs.Chained.{root-stored}
use Rattle.std.proofs.Common.{rules}
use Rattle.archive_store.proofs.tables.store_root.Goals as goal

pub returns : goal.returns
returns c = search (rules, root-stored)
