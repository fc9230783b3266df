use Rattle.archive_read.proofs.bodies.AtTables.{unresolved-short, unresolved-other, unresolved-fall, is-unresolved}
use borrow.Author.Rules.{rules}
use Rattle.archive_read.proofs.bodies.unresolved_body.Goals as goal

pub returns-then-b-lt4-clause-result_value : goal.returns-then-b-lt4-clause-result_value
returns-then-b-lt4-clause-result_value c = search unresolved-short

pub returns-then-b-lt4-clause-list_inside : goal.returns-then-b-lt4-clause-list_inside
returns-then-b-lt4-clause-list_inside c = tt

pub returns-then-b-n-clause-result_value : goal.returns-then-b-n-clause-result_value
returns-then-b-n-clause-result_value c = search (rules, unresolved-other)

pub returns-then-b-n-clause-list_inside : goal.returns-then-b-n-clause-list_inside
returns-then-b-n-clause-list_inside c = tt

pub returns-then-not-children_ok-clause-result_value : goal.returns-then-not-children_ok-clause-result_value
returns-then-not-children_ok-clause-result_value c = search (rules, unresolved-fall)

pub returns-then-not-children_ok-clause-list_inside : goal.returns-then-not-children_ok-clause-list_inside
returns-then-not-children_ok-clause-list_inside c = tt

pub returns-clause-result_value : goal.returns-clause-result_value
returns-clause-result_value c = search (rules, is-unresolved)
