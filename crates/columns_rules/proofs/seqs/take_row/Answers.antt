use Rattle.columns_rules.proofs.seqs.LabelTurns.{table_of, none_before, one-before, one_more}
use Rattle.columns_rules.proofs.seqs.take_row.Goals as goal

pub put-requires-clause-table : goal.put-requires-clause-table
put-requires-clause-table c = search table_of

pub returns-then-last-eq0-clause-held_2 : goal.returns-then-last-eq0-clause-held_2
returns-then-last-eq0-clause-held_2 c = search one_more

pub returns-then-last-eq0-clause-value : goal.returns-then-last-eq0-clause-value
returns-then-last-eq0-clause-value c = search none_before

pub returns-clause-held_2 : goal.returns-clause-held_2
returns-clause-held_2 c = search one_more

pub returns-clause-value : goal.returns-clause-value
returns-clause-value c = search one-before
