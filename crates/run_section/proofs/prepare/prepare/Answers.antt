use Rattle.run_section.proofs.prepare.Preparing.{rows_few, groups-few, rows-sorted, rows-labelled, lists-turnable, prepared}
use borrow.Author.Rules.{rules}
use Rattle.run_section.proofs.prepare.prepare.Goals as goal

pub put_children-n-requires-clause-turnable : goal.put_children-n-requires-clause-turnable
put_children-n-requires-clause-turnable c = search (rules, lists-turnable)

pub covers_of-covers-requires-clause-rows_bound : goal.covers_of-covers-requires-clause-rows_bound
covers_of-covers-requires-clause-rows_bound c = (search (rules, rows_few), (search (rules, groups-few), search rules))

pub covers_of-covers-requires-clause-sorted_table : goal.covers_of-covers-requires-clause-sorted_table
covers_of-covers-requires-clause-sorted_table c = search (rules, rows-sorted)

pub covers_of-covers-requires-clause-labelled : goal.covers_of-covers-requires-clause-labelled
covers_of-covers-requires-clause-labelled c = search (rules, rows-labelled)

pub returns : goal.returns
returns c = search (rules, prepared)
