use Rattle.archive_store.proofs.Chained.{links-stored}
use Rattle.std.proofs.Common.{rules}
use Rattle.archive_store.proofs.covers.store_links.Goals as goal

pub returns : goal.returns
returns c = search (rules, links-stored)
