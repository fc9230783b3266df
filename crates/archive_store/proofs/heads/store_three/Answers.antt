use Rattle.archive_store.proofs.Chained.{three-stored}
use Rattle.std.proofs.Common.{rules}
use Rattle.archive_store.proofs.heads.store_three.Goals as goal

pub returns : goal.returns
returns c = search (rules, three-stored)
