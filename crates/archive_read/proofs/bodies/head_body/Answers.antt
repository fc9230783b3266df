use Rattle.archive_read.proofs.bodies.AtHead.{too_short, not-exact, bad-depth, is-head}
use borrow.Author.Rules.{rules}
use Rattle.archive_read.proofs.bodies.head_body.Goals as goal

pub returns-then-b-lt31-clause-result_value : goal.returns-then-b-lt31-clause-result_value
returns-then-b-lt31-clause-result_value c = search too_short

pub returns-then-b-lt31-clause-head_inside : goal.returns-then-b-lt31-clause-head_inside
returns-then-b-lt31-clause-head_inside c = tt

pub returns-then-b-p-clause-result_value : goal.returns-then-b-p-clause-result_value
returns-then-b-p-clause-result_value c = search (rules, not-exact)

pub returns-then-b-p-clause-head_inside : goal.returns-then-b-p-clause-head_inside
returns-then-b-p-clause-head_inside c = tt

pub returns-then-not-depth_ok-clause-result_value : goal.returns-then-not-depth_ok-clause-result_value
returns-then-not-depth_ok-clause-result_value c = search (rules, bad-depth)

pub returns-then-not-depth_ok-clause-head_inside : goal.returns-then-not-depth_ok-clause-head_inside
returns-then-not-depth_ok-clause-head_inside c = tt

pub returns-clause-result_value : goal.returns-clause-result_value
returns-clause-result_value c = search (rules, is-head)
