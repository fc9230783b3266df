use Rattle.run_state.proofs.Verdicts.{valid-rows, valid-end, valid-numbers, valid-form, once-test}
use borrow.Author.Rules.{rules}
use Rattle.run_state.proofs.valid.is_once.Goals as goal

pub once_ok-requires : goal.once_ok-requires
once_ok-requires c = search (rules, valid-rows, valid-end, valid-numbers, valid-form)

pub returns : goal.returns
returns c = search once-test
