use Rattle.cover_rows.proofs.Fitting.{ok-sums, sums-count}
use Rattle.cover_read.proofs.links.Linked.{even-seqs, even-chains, even-ends, from-level, from-room, stored-count, stored-written}
use borrow.Author.Rules.{rules}
use Rattle.cover_read.proofs.links.write_chosen.Goals as goal

pub write_sums-requires : goal.write_sums-requires
write_sums-requires c = (search rules, search ok-sums)

pub slice_bounds-links-end : goal.slice_bounds-links-end
slice_bounds-links-end c = search sums-count

pub invariant_of-links : goal.invariant_of-links
invariant_of-links c = record {
  from_even = search (even-seqs, even-chains, even-ends);
  to_even = search (even-seqs, even-chains, even-ends);
  ends_even = search (even-seqs, even-chains, even-ends);
}

pub pick_chosen-requires-clause-from_value : goal.pick_chosen-requires-clause-from_value
pick_chosen-requires-clause-from_value c = (search from-level, (search from-room, search rules))

pub pick_chosen-requires-clause-from_in_bounds : goal.pick_chosen-requires-clause-from_in_bounds
pick_chosen-requires-clause-from_in_bounds c = (search from-room, (search from-room, (search from-room, search from-room)))

pub returns-clause-value : goal.returns-clause-value
returns-clause-value c = search stored-count

pub returns-clause-d_after : goal.returns-clause-d_after
returns-clause-d_after c = search stored-written
