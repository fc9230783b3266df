use Rattle.archive_store.proofs.Zipped.{ranges-counted}
use Rattle.std.proofs.Common.{rules}
use Rattle.archive_store.proofs.covers.store_counted.Goals as goal

pub returns : goal.returns
returns c = search (rules, ranges-counted)
