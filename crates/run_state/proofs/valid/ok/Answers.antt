use Rattle.run_state.proofs.Verdicts.{rows-kept, rows-sized, children-sized, roots-sized, numbers-sized, bad-held, bad-columns, bad-reverse, inbound-test}
use borrow.Author.Rules.{rules}
use Rattle.run_state.proofs.valid.ok.Goals as goal

pub returns-then-not-counts_ok : goal.returns-then-not-counts_ok
returns-then-not-counts_ok c = search bad-held

pub columns_ok-requires : goal.columns_ok-requires
columns_ok-requires c = search (rules, rows-sized, children-sized, roots-sized, numbers-sized)

pub returns-then-not-columns_ok : goal.returns-then-not-columns_ok
returns-then-not-columns_ok c = search bad-columns

pub edges_ok-requires : goal.edges_ok-requires
edges_ok-requires c = search (rules, rows-kept)

pub returns-then-not-edges_ok : goal.returns-then-not-edges_ok
returns-then-not-edges_ok c = search bad-reverse

pub edges_ok-requires-2 : goal.edges_ok-requires-2
edges_ok-requires-2 c = search (rules, rows-kept)

pub returns : goal.returns
returns c = search inbound-test
