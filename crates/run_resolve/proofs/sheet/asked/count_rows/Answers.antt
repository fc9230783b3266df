use Rattle.run_resolve.proofs.sheet.Asking.{edges_few, edges-table, slots-counted}
use borrow.Author.Rules.{rules}
use Rattle.run_resolve.proofs.sheet.asked.count_rows.Goals as goal

pub count_parts-requires-clause-n_bound : goal.count_parts-requires-clause-n_bound
count_parts-requires-clause-n_bound c = (search rules, search rules)

pub count_parts-requires-clause-m_bound : goal.count_parts-requires-clause-m_bound
count_parts-requires-clause-m_bound c = (search edges_few, (search rules, search rules))

pub count_parts-requires-clause-offsets_value : goal.count_parts-requires-clause-offsets_value
count_parts-requires-clause-offsets_value c = search edges-table

pub returns : goal.returns
returns c = search slots-counted
