use Rattle.std.proofs.Common.{rules}
use Rattle.archive_store.proofs.Zipped.{unresolved-done, unresolved-next}
use Rattle.archive_store.proofs.tables.store_unresolved.Goals as goal

pub loop-i-preserved : goal.loop-i-preserved
loop-i-preserved c = (search rules, search rules, search rules, search (rules, unresolved-next))

pub returns : goal.returns
returns c = search (rules, unresolved-done)
