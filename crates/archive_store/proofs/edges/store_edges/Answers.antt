use Rattle.archive_store.proofs.Chained.{edges-stored}
use Rattle.std.proofs.Common.{rules}
use Rattle.archive_store.proofs.edges.store_edges.Goals as goal

pub returns : goal.returns
returns c = search (rules, edges-stored)
