use Rattle.std.proofs.Common.{rules}
use Rattle.archive_store.proofs.Zipped.{roots-done, root-next}
use Rattle.archive_store.proofs.tables.store_roots.Goals as goal

pub loop-i-preserved : goal.loop-i-preserved
loop-i-preserved c = (search rules, search rules, search rules, search (rules, root-next))

pub returns : goal.returns
returns c = search (rules, roots-done)
