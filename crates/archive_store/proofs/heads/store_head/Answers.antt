use Rattle.archive_store.proofs.Chained.{head-stored}
use Rattle.std.proofs.Common.{rules}
use Rattle.archive_store.proofs.heads.store_head.Goals as goal

pub returns : goal.returns
returns c = search (rules, head-stored)
