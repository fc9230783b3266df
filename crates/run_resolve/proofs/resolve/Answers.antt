-- The rules in their order.
use Rattle.run_resolve.proofs.Answered.{no_source, lists-over, lists-within, survivors-counted, group-lost, all-kept}
use Rattle.run_resolve.proofs.resolve.Goals as goal

pub returns-then-h-eq0 : goal.returns-then-h-eq0
returns-then-h-eq0 c = search no_source

pub returns-in_default : goal.returns-in_default
returns-in_default c = search lists-over

pub survivors-s-requires-clause-edges_kept : goal.survivors-s-requires-clause-edges_kept
survivors-s-requires-clause-edges_kept c = search lists-within

pub is_filled-requires : goal.is_filled-requires
is_filled-requires c = search survivors-counted

pub returns-then-not-is_filled : goal.returns-then-not-is_filled
returns-then-not-is_filled c = search group-lost

pub returns : goal.returns
returns c = search all-kept
