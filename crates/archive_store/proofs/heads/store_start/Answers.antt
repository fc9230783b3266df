use Rattle.archive_store.proofs.Chained.{start-stored}
use Rattle.std.proofs.Common.{rules}
use Rattle.archive_store.proofs.heads.store_start.Goals as goal

pub returns : goal.returns
returns c = search (rules, start-stored)
