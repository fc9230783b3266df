use Rattle.run.proofs.InTurn.{taking-is}
use Rattle.run.proofs.Calls.{resolve-late, sources-valid, sources-order, resolve-refused, resolve-done}
use borrow.Author.Rules.{rules}
use Rattle.run.proofs.resolve.Goals as goal

pub returns-then-not-is_taking : goal.returns-then-not-is_taking
returns-then-not-is_taking c = search (rules, taking-is, resolve-late)

pub resolve-q-requires : goal.resolve-q-requires
resolve-q-requires c = search (rules, taking-is, sources-valid, sources-order)

pub returns-in-Err : goal.returns-in-Err
returns-in-Err c = search (rules, taking-is, resolve-refused)

pub returns-in-Ok : goal.returns-in-Ok
returns-in-Ok c = search (rules, taking-is, resolve-done)
