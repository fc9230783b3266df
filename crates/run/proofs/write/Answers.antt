use Rattle.run.proofs.InTurn.{resolved-is}
use Rattle.run.proofs.Calls.{write-early, sheet-valid, sheet-order, sheet-filled, sheet-once, write-now}
use borrow.Author.Rules.{rules}
use Rattle.run.proofs.write.Goals as goal

pub returns-then-not-is_resolved : goal.returns-then-not-is_resolved
returns-then-not-is_resolved c = search (rules, resolved-is, write-early)

pub write_sheet-requires : goal.write_sheet-requires
write_sheet-requires c = search (rules, resolved-is, sheet-valid, sheet-order, sheet-filled, sheet-once)

pub returns : goal.returns
returns c = search (rules, resolved-is, write-now)
