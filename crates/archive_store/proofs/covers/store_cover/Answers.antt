use Rattle.archive_store.proofs.Zipped.{cover-stored}
use Rattle.std.proofs.Common.{rules}
use Rattle.archive_store.proofs.covers.store_cover.Goals as goal

pub returns : goal.returns
returns c = search (rules, cover-stored)
