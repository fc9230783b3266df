use Rattle.std.proofs.Common.{rules}
use Rattle.archive_store.proofs.Zipped.{rows-done, row_next}
use Rattle.archive_store.proofs.tables.store_rows.Goals as goal

pub loop-i-preserved : goal.loop-i-preserved
loop-i-preserved c = (search rules, search rules, search rules, search (rules, row_next))

pub returns : goal.returns
returns c = search (rules, rows-done)
