use Rattle.run_state.proofs.Verdicts.{bad-counts, rows-sized, children-sized, roots-sized, numbers-sized, columns-test}
use borrow.Author.Rules.{rules}
use Rattle.run_state.proofs.valid.sheet_ok.Goals as goal

pub returns-then-not-counts_ok : goal.returns-then-not-counts_ok
returns-then-not-counts_ok c = search bad-counts

pub columns_ok-requires : goal.columns_ok-requires
columns_ok-requires c = search (rules, rows-sized, children-sized, roots-sized, numbers-sized)

pub returns : goal.returns
returns c = search columns-test
