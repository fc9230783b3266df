use Rattle.archive_store.proofs.Chained.{depth-known, depth-unknown}
use Rattle.std.proofs.Common.{rules}
use Rattle.archive_store.proofs.heads.store_depth.Goals as goal

pub returns-then-known : goal.returns-then-known
returns-then-known c = search (rules, depth-known)

pub returns : goal.returns
returns c = search (rules, depth-unknown)
