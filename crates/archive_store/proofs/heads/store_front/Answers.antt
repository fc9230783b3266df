use Rattle.archive_store.proofs.Chained.{front-stored}
use Rattle.std.proofs.Common.{rules}
use Rattle.archive_store.proofs.heads.store_front.Goals as goal

pub returns : goal.returns
returns c = search (rules, front-stored)
