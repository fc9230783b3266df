use Rattle.run_rules.proofs.limits.Exits.{references-there, records-many, numbers-many, limits-kept}
use borrow.Author.Rules.{rules}
use Rattle.run_rules.proofs.limits.limit_rules.Goals as goal

pub returns-then-t-gt0 : goal.returns-then-t-gt0
returns-then-t-gt0 c = search (rules, references-there)

pub returns-then-many_records : goal.returns-then-many_records
returns-then-many_records c = search (rules, records-many)

pub returns-then-many_numbers : goal.returns-then-many_numbers
returns-then-many_numbers c = search (rules, numbers-many)

pub returns : goal.returns
returns c = search (rules, limits-kept)
