use Rattle.run.proofs.InTurn.{resolved-is}
use Rattle.run.proofs.Calls.{count-early, held-valid, held-order, count-now}
use borrow.Author.Rules.{rules}
use Rattle.run.proofs.reparented.Goals as goal

pub returns-then-not-is_resolved : goal.returns-then-not-is_resolved
returns-then-not-is_resolved c = search (rules, resolved-is, count-early)

pub reparented-requires : goal.reparented-requires
reparented-requires c = search (rules, resolved-is, held-valid, held-order)

pub returns : goal.returns
returns c = search (rules, resolved-is, count-now)
