use Rattle.run.proofs.InTurn.{taking-is}
use Rattle.run.proofs.Calls.{take-late, sources-valid, sources-order, take_refused, take_done}
use borrow.Author.Rules.{rules}
use Rattle.run.proofs.take.Goals as goal

pub returns-then-not-is_taking : goal.returns-then-not-is_taking
returns-then-not-is_taking c = search (rules, taking-is, take-late)

pub take-requires : goal.take-requires
take-requires c = search (rules, taking-is, sources-valid, sources-order)

pub returns-in-Err : goal.returns-in-Err
returns-in-Err c = search (rules, taking-is, take_refused)

pub returns-in-Ok : goal.returns-in-Ok
returns-in-Ok c = search (rules, taking-is, take_done)
