use Rattle.archive_read.proofs.bodies.AtSets.{no-count, past, is_set}
use borrow.Author.Rules.{rules}
use Rattle.archive_read.proofs.bodies.set_at.Goals as goal

pub returns-then-b-p-lt4-clause-result_value : goal.returns-then-b-p-lt4-clause-result_value
returns-then-b-p-lt4-clause-result_value c = search no-count

pub returns-then-b-p-lt4-clause-set_inside : goal.returns-then-b-p-lt4-clause-set_inside
returns-then-b-p-lt4-clause-set_inside c = tt

pub returns-then-b-end-clause-result_value : goal.returns-then-b-end-clause-result_value
returns-then-b-end-clause-result_value c = search (rules, past)

pub returns-then-b-end-clause-set_inside : goal.returns-then-b-end-clause-set_inside
returns-then-b-end-clause-set_inside c = tt

pub returns-clause-result_value : goal.returns-clause-result_value
returns-clause-result_value c = search (rules, is_set)
