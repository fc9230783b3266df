-- The columns hold the ranges.
use Rattle.run_section.proofs.covers.Ranging.{front-count, front-in, front-few, front-room, fronts-even, ranges-few, ranges-read}
use borrow.Author.Rules.{rules}
use Rattle.run_section.proofs.covers.label_ranges.Goals as goal

pub slice_bounds-chains-end : goal.slice_bounds-chains-end
slice_bounds-chains-end c = search (rules, front-in)

pub slice_bounds-ranges_of-end : goal.slice_bounds-ranges_of-end
slice_bounds-ranges_of-end c = search (rules, front-count)

pub slice_bounds-seqs-end : goal.slice_bounds-seqs-end
slice_bounds-seqs-end c = search (rules, front-in)

pub slice_bounds-ranges_of-end-2 : goal.slice_bounds-ranges_of-end-2
slice_bounds-ranges_of-end-2 c = search (rules, front-count)

pub ranges_of-count-requires-clause-seqs_len : goal.ranges_of-count-requires-clause-seqs_len
ranges_of-count-requires-clause-seqs_len c = (search (rules, fronts-even), search (rules, front-few))

pub ranges_of-count-requires-clause-chains_in_bounds : goal.ranges_of-count-requires-clause-chains_in_bounds
ranges_of-count-requires-clause-chains_in_bounds c = (search (rules, front-room), (search (rules, front-room), search (rules, front-room)))

pub returns : goal.returns
returns c = (search (rules, ranges-read), search (rules, ranges-few))
