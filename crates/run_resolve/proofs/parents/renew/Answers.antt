-- There is room for all lists, or for none.
use Rattle.run_resolve.proofs.parents.KeptLists.{columns-few, columns-table, built-few, built-table, edges-kept, edges-over}
use borrow.Author.Rules.{rules}
use Rattle.run_resolve.proofs.parents.renew.Goals as goal

pub put_all-requires-clause-n_bound : goal.put_all-requires-clause-n_bound
put_all-requires-clause-n_bound c = (search rules, (search rules, search rules))

pub put_all-requires-clause-m_bound : goal.put_all-requires-clause-m_bound
put_all-requires-clause-m_bound c = (search columns-few, (search rules, search rules))

pub put_all-requires-clause-offsets_value : goal.put_all-requires-clause-offsets_value
put_all-requires-clause-offsets_value c = search columns-table

pub keep_all-k-requires-clause-n_bound : goal.keep_all-k-requires-clause-n_bound
keep_all-k-requires-clause-n_bound c = (search rules, search rules)

pub keep_all-k-requires-clause-m_bound : goal.keep_all-k-requires-clause-m_bound
keep_all-k-requires-clause-m_bound c = (search (rules, built-few), (search rules, search rules))

pub keep_all-k-requires-clause-offsets_value : goal.keep_all-k-requires-clause-offsets_value
keep_all-k-requires-clause-offsets_value c = search (rules, built-table)

pub returns : goal.returns
returns c = search (edges-kept, c.in_ok-m.was)

pub returns-in_err-m : goal.returns-in_err-m
returns-in_err-m c = rw c.from_residual.ensures (search (edges-over, c.in_err-m.was))
