use Rattle.run.proofs.InTurn.{resolved-is}
use Rattle.run.proofs.Calls.{map-early, held-valid, held-order, map-now}
use borrow.Author.Rules.{rules}
use Rattle.run.proofs.new_number.Goals as goal

pub returns-then-not-is_resolved : goal.returns-then-not-is_resolved
returns-then-not-is_resolved c = search (rules, resolved-is, map-early)

pub new_number-requires : goal.new_number-requires
new_number-requires c = search (rules, resolved-is, held-valid, held-order)

pub returns : goal.returns
returns c = search (rules, resolved-is, map-now)
