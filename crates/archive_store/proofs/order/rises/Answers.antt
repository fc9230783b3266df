use Rattle.archive_store.proofs.order.Turns.{none-rises, rise-all}
use Rattle.std.proofs.Common.{rules}
use Rattle.archive_store.proofs.order.rises.Goals as goal

pub returns-then-n-eq0 : goal.returns-then-n-eq0
returns-then-n-eq0 c = search (rules, none-rises)

pub returns : goal.returns
returns c = search (rules, rise-all)
