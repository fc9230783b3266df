use Rattle.archive_store.proofs.Chained.{two-stored}
use Rattle.std.proofs.Common.{rules}
use Rattle.archive_store.proofs.covers.store_two.Goals as goal

pub returns : goal.returns
returns c = search (rules, two-stored)
