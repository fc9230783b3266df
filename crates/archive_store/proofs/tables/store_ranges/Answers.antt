use Rattle.std.proofs.Common.{rules}
use Rattle.archive_store.proofs.Zipped.{ranges-done, range-next}
use Rattle.archive_store.proofs.tables.store_ranges.Goals as goal

pub loop-i-preserved : goal.loop-i-preserved
loop-i-preserved c = (search rules, search rules, search rules, search (rules, range-next))

pub returns : goal.returns
returns c = search (rules, ranges-done)
