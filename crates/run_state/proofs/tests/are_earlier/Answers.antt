use Rattle.run_state.proofs.ColumnTurns.{earlier-done, slot-late, slot-early}
use borrow.Author.Rules.{rules}
use Rattle.run_state.proofs.tests.are_earlier.Goals as goal

pub returns-then-not-slot_earlier : goal.returns-then-not-slot_earlier
returns-then-not-slot_earlier c = search (rules, slot-late)

pub loop-s-preserved : goal.loop-s-preserved
loop-s-preserved c = search (rules, slot-early)

pub returns : goal.returns
returns c = search (rules, earlier-done)
