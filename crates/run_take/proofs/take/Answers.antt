use mathlib.Core.Path.{refl}
use Rattle.columns.proofs.Handed.{handed-on}
use Rattle.run_take.proofs.Answers.{files-fit, is-refused, rules-kept, is-archive, is-accepted}
use borrow.Author.Rules.{rules}
use Rattle.run_take.proofs.take.Goals as goal

pub store-requires-clause-h_value : goal.store-requires-clause-h_value
store-requires-clause-h_value c = (search rules, search rules)

pub store-requires-clause-bytes_value : goal.store-requires-clause-bytes_value
store-requires-clause-bytes_value c = (search (is-archive, c.in_ok-rules_by.was), search files-fit)

pub store-requires-clause-bytes_value_2 : goal.store-requires-clause-bytes_value_2
store-requires-clause-bytes_value_2 c = search (rules-kept, c.in_ok-rules_by.was)

pub returns-in_err-rules_by : goal.returns-in_err-rules_by
returns-in_err-rules_by c = search (is-refused, c.in_err-rules_by.was, handed-on _ c.from_residual.ensures refl)

pub returns : goal.returns
returns c = search (is-accepted, c.in_ok-rules_by.was)
