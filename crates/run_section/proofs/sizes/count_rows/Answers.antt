use Rattle.run_section.proofs.Counting.{offset-there, last-there, rows_rise, rows_end, rows_counted, rows_few}
use borrow.Author.Rules.{rules}
use Rattle.run_section.proofs.sizes.count_rows.Goals as goal

pub bounds-offsets-a : goal.bounds-offsets-a
bounds-offsets-a c = search (rules, offset-there)

pub bounds-offsets-b : goal.bounds-offsets-b
bounds-offsets-b c = search (rules, last-there)

pub count_between-requires : goal.count_between-requires
count_between-requires c = (search (rules, rows_rise), search (rules, rows_end))

pub returns-clause-value : goal.returns-clause-value
returns-clause-value c = search (rules, rows_counted)

pub returns-clause-upper_bound : goal.returns-clause-upper_bound
returns-clause-upper_bound c = search (rules, rows_few)
