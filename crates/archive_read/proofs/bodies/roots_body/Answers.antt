use Rattle.archive_read.proofs.bodies.AtTables.{roots-short, roots-other, roots-fall, are-roots}
use borrow.Author.Rules.{rules}
use Rattle.archive_read.proofs.bodies.roots_body.Goals as goal

pub returns-then-b-lt4-clause-result_value : goal.returns-then-b-lt4-clause-result_value
returns-then-b-lt4-clause-result_value c = search roots-short

pub returns-then-b-lt4-clause-list_inside : goal.returns-then-b-lt4-clause-list_inside
returns-then-b-lt4-clause-list_inside c = tt

pub returns-then-b-n-clause-result_value : goal.returns-then-b-n-clause-result_value
returns-then-b-n-clause-result_value c = search (rules, roots-other)

pub returns-then-b-n-clause-list_inside : goal.returns-then-b-n-clause-list_inside
returns-then-b-n-clause-list_inside c = tt

pub returns-then-not-rows_rise-clause-result_value : goal.returns-then-not-rows_rise-clause-result_value
returns-then-not-rows_rise-clause-result_value c = search (rules, roots-fall)

pub returns-then-not-rows_rise-clause-list_inside : goal.returns-then-not-rows_rise-clause-list_inside
returns-then-not-rows_rise-clause-list_inside c = tt

pub returns-clause-result_value : goal.returns-clause-result_value
returns-clause-result_value c = search (rules, are-roots)
