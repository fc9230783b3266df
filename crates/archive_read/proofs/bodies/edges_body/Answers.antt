use Rattle.archive_read.proofs.bodies.AtSets.{none1, none2, none3, inexact, all3, ends-inside, set-inside}
use borrow.Author.Rules.{rules}
use Rattle.archive_read.proofs.bodies.edges_body.Goals as goal

pub returns-in_err-forward-clause-result_value : goal.returns-in_err-forward-clause-result_value
returns-in_err-forward-clause-result_value c = rw c.from_residual.ensures (search (none1, c.in_err-forward.was))

pub set_at-requires-2 : goal.set_at-requires-2
set_at-requires-2 c = (search rules, search (ends-inside, c.in_ok-forward.was))

pub returns-in_err-reverse-clause-result_value : goal.returns-in_err-reverse-clause-result_value
returns-in_err-reverse-clause-result_value c = rw c.from_residual-in_err-reverse.ensures (search (none2, c.in_ok-forward.was, c.in_err-reverse.was))

pub set_at-requires-3 : goal.set_at-requires-3
set_at-requires-3 c = (search rules, search (ends-inside, c.in_ok-reverse.was))

pub returns-in_err-inbound-clause-result_value : goal.returns-in_err-inbound-clause-result_value
returns-in_err-inbound-clause-result_value c =
    rw c.from_residual-in_err-inbound.ensures (search (none3, c.in_ok-forward.was, c.in_ok-reverse.was, c.in_err-inbound.was))

pub returns-then-b-inbound-clause-result_value : goal.returns-then-b-inbound-clause-result_value
returns-then-b-inbound-clause-result_value c = search (inexact, c.in_ok-forward.was, c.in_ok-reverse.was, c.in_ok-inbound.was)

pub returns-clause-result_value : goal.returns-clause-result_value
returns-clause-result_value c = search (all3, c.in_ok-forward.was, c.in_ok-reverse.was, c.in_ok-inbound.was)

pub returns-clause-edges_inside : goal.returns-clause-edges_inside
returns-clause-edges_inside c = (
  search (set-inside, c.in_ok-forward.was),
  search (set-inside, c.in_ok-reverse.was),
  search (set-inside, c.in_ok-inbound.was),
)
