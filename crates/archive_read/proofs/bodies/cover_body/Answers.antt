use Rattle.archive_read.proofs.bodies.AtCover.{no-ranges, no-links, cover-other, is-cover}
use borrow.Author.Rules.{rules}
use Rattle.archive_read.proofs.bodies.cover_body.Goals as goal

pub returns-then-b-p-clause-result_value : goal.returns-then-b-p-clause-result_value
returns-then-b-p-clause-result_value c = search no-ranges

pub returns-then-b-p-clause-cover_inside : goal.returns-then-b-p-clause-cover_inside
returns-then-b-p-clause-cover_inside c = tt

pub returns-then-b-q-clause-result_value : goal.returns-then-b-q-clause-result_value
returns-then-b-q-clause-result_value c = search (rules, no-links)

pub returns-then-b-q-clause-cover_inside : goal.returns-then-b-q-clause-cover_inside
returns-then-b-q-clause-cover_inside c = tt

pub returns-then-b-q-2-clause-result_value : goal.returns-then-b-q-2-clause-result_value
returns-then-b-q-2-clause-result_value c = search (rules, cover-other)

pub returns-then-b-q-2-clause-cover_inside : goal.returns-then-b-q-2-clause-cover_inside
returns-then-b-q-2-clause-cover_inside c = tt

pub returns-clause-result_value : goal.returns-clause-result_value
returns-clause-result_value c = search (rules, is-cover)
