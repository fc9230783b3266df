use Rattle.cover_build.proofs.Labelled.{chains-count, seqs-count, fronts-even, front-few, ranges-count, ranges-put}
use Rattle.std.proofs.Common.{rules}
use Rattle.cover_build.proofs.write_ranges.Goals as goal

pub slice_bounds-ranges_of-end : goal.slice_bounds-ranges_of-end
slice_bounds-ranges_of-end c = search chains-count

pub slice_bounds-ranges_of-end-2 : goal.slice_bounds-ranges_of-end-2
slice_bounds-ranges_of-end-2 c = search seqs-count

pub ranges_of-requires-clause-seqs_len : goal.ranges_of-requires-clause-seqs_len
ranges_of-requires-clause-seqs_len c = (search fronts-even, search (rules, front-few))

pub ranges_of-requires-clause-chains_in_bounds : goal.ranges_of-requires-clause-chains_in_bounds
ranges_of-requires-clause-chains_in_bounds c = (search front-few, (search front-few, search front-few))

pub returns-clause-value : goal.returns-clause-value
returns-clause-value c = search ranges-count

pub returns-clause-maxima_after : goal.returns-clause-maxima_after
returns-clause-maxima_after c = search ranges-put
