use Rattle.archive_store.proofs.Chained.{set-stored}
use Rattle.std.proofs.Common.{rules}
use Rattle.archive_store.proofs.edges.store_set.Goals as goal

pub returns-clause-out_after : goal.returns-clause-out_after
returns-clause-out_after c = search (rules, set-stored)
