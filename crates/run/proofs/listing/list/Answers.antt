use Rattle.run.proofs.InTurn.{resolved-is}
use Rattle.run.proofs.Calls.{list-early, list-ready, list-now}
use Rattle.run.proofs.listing.list.Goals as goal

pub returns-then-not-is_resolved : goal.returns-then-not-is_resolved
returns-then-not-is_resolved c = search (resolved-is, list-early)

pub list-requires : goal.list-requires
list-requires c = search (resolved-is, list-ready)

pub returns : goal.returns
returns c = search (resolved-is, list-now)
