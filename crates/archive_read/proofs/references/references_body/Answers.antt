use Rattle.archive_read.proofs.references.AtReferences.{row_fits, counts_start, counts-next}
use Rattle.archive_read.proofs.references.AtReferences.{body-broken, body-inexact, body-empty, is-body-cited, body-counted}
use borrow.Author.Rules.{rules}
use Rattle.archive_read.proofs.references.references_body.Goals as goal

pub loop-i-init : goal.loop-i-init
loop-i-init c = (search rules, search rules, search rules, search rules, search counts_start)

pub returns-in_err-k-clause-result_value : goal.returns-in_err-k-clause-result_value
returns-in_err-k-clause-result_value c = rw c.from_residual.ensures (search (rules, body-broken, c.in_err-k.was))

pub overflow_add-total : goal.overflow_add-total
overflow_add-total c = let h = row_fits _ _ _ c.row_at.ensures.row_inside c.in_ok-k.was in search rules

pub overflow_add-p : goal.overflow_add-p
overflow_add-p c = let h = row_fits _ _ _ c.row_at.ensures.row_inside c.in_ok-k.was in search rules

pub overflow_mul-p : goal.overflow_mul-p
overflow_mul-p c = let h = row_fits _ _ _ c.row_at.ensures.row_inside c.in_ok-k.was in search rules

pub overflow_add-p-in-loop-i : goal.overflow_add-p-in-loop-i
overflow_add-p-in-loop-i c = let h = row_fits _ _ _ c.row_at.ensures.row_inside c.in_ok-k.was in search rules

pub loop-i-preserved : goal.loop-i-preserved
loop-i-preserved c = (search rules, search rules, search (row_fits, c.in_ok-k.was), search rules, search (rules, counts-next, c.in_ok-k.was))

pub returns-then-b-p-clause-result_value : goal.returns-then-b-p-clause-result_value
returns-then-b-p-clause-result_value c = search (rules, body-inexact)

pub returns-then-b-p-clause-cited_inside : goal.returns-then-b-p-clause-cited_inside
returns-then-b-p-clause-cited_inside c = tt

pub returns-then-total-eq0-clause-result_value : goal.returns-then-total-eq0-clause-result_value
returns-then-total-eq0-clause-result_value c = search (rules, body-empty)

pub returns-then-total-eq0-clause-cited_inside : goal.returns-then-total-eq0-clause-cited_inside
returns-then-total-eq0-clause-cited_inside c = tt

pub returns-clause-result_value : goal.returns-clause-result_value
returns-clause-result_value c = search (rules, is-body-cited)

pub returns-clause-cited_inside : goal.returns-clause-cited_inside
returns-clause-cited_inside c = (search rules, search (rules, body-counted))
