use Rattle.cover_rows.proofs.Fitting.{sums-count, few-from, few-to, few-ends, sums-past, sums-within, long-sums, then-rise}
use borrow.Author.Rules.{rules}
use Rattle.cover_rows.proofs.links_fit.Goals.{then-b-n-via-then-b-n, then-b-n-via-else-b-n+then-c-n, then-b-n-via-else-b-n+else-c-n+then-d-n, then-b-n-via-else-b-n+else-c-n+else-d-n+then-not-sums_fit}
use Rattle.cover_rows.proofs.links_fit.Goals as goal

pub returns-then-b-n : goal.returns-then-b-n
returns-then-b-n c =
    elim c.then-b-n.branch [
      | then-b-n-via-then-b-n w ↦ search few-from
      | then-b-n-via-else-b-n+then-c-n w ↦ search few-to
      | then-b-n-via-else-b-n+else-c-n+then-d-n w ↦ search few-ends
      | then-b-n-via-else-b-n+else-c-n+else-d-n+then-not-sums_fit w ↦ search sums-past
    ]

pub write_sums-requires : goal.write_sums-requires
write_sums-requires c = (search rules, search sums-within)

pub slice_bounds-links-end : goal.slice_bounds-links-end
slice_bounds-links-end c = search (rules, sums-count)

pub invariant_of-links : goal.invariant_of-links
invariant_of-links c = record { from_even = search long-sums; to_even = search long-sums; ends_even = search long-sums }

pub returns : goal.returns
returns c = search then-rise
