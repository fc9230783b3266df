use Rattle.archive_read.proofs.references.AtReferences.{row-short, row-long, row-unknown, is_row}
use borrow.Author.Rules.{rules}
use Rattle.archive_read.proofs.references.row_at.Goals as goal

pub returns-then-b-p-lt4-clause-result_value : goal.returns-then-b-p-lt4-clause-result_value
returns-then-b-p-lt4-clause-result_value c = search row-short

pub returns-then-b-p-lt4-clause-row_inside : goal.returns-then-b-p-lt4-clause-row_inside
returns-then-b-p-lt4-clause-row_inside c = tt

pub returns-then-b-p-clause-result_value : goal.returns-then-b-p-clause-result_value
returns-then-b-p-clause-result_value c = search (rules, row-long)

pub returns-then-b-p-clause-row_inside : goal.returns-then-b-p-clause-row_inside
returns-then-b-p-clause-row_inside c = tt

pub returns-then-not-are_known-clause-result_value : goal.returns-then-not-are_known-clause-result_value
returns-then-not-are_known-clause-result_value c = search (rules, row-unknown)

pub returns-then-not-are_known-clause-row_inside : goal.returns-then-not-are_known-clause-row_inside
returns-then-not-are_known-clause-row_inside c = tt

pub returns-clause-result_value : goal.returns-clause-result_value
returns-clause-result_value c = search (rules, is_row)
