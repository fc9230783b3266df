use Rattle.run_state.proofs.Verdicts.{bad-table, numbers-there, table-form, child-outside, root-outside, parents-test}
use borrow.Author.Rules.{rules}
use Rattle.run_state.proofs.valid.columns_ok.Goals as goal

pub returns-then-not-edges_ok : goal.returns-then-not-edges_ok
returns-then-not-edges_ok c = search bad-table

pub returns-then-not-are_in_file : goal.returns-then-not-are_in_file
returns-then-not-are_in_file c = search child-outside

pub returns-then-not-are_below : goal.returns-then-not-are_below
returns-then-not-are_below c = search root-outside

pub order_ok-requires : goal.order_ok-requires
order_ok-requires c = search (rules, numbers-there, table-form)

pub returns : goal.returns
returns c = search parents-test
