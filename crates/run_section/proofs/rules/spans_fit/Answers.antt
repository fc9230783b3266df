use Rattle.run_section.proofs.Tested.{parents-far, parents-near}
use borrow.Author.Rules.{rules}
use Rattle.run_section.proofs.rules.spans_fit.Goals as goal

pub returns-then-not-slots_fit : goal.returns-then-not-slots_fit
returns-then-not-slots_fit c = search (rules, parents-far)

pub returns : goal.returns
returns c = search (rules, parents-near)
