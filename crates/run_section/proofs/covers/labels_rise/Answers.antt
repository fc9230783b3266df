-- Both columns are n long.
use Rattle.run_section.proofs.covers.Ranging.{front-count, front-in, front-few, fronts-even}
use borrow.Author.Rules.{rules}
use Rattle.run_section.proofs.covers.labels_rise.Goals as goal

pub slice_bounds-chains-end : goal.slice_bounds-chains-end
slice_bounds-chains-end c = search (rules, front-in)

pub slice_bounds-seqs_rise-end : goal.slice_bounds-seqs_rise-end
slice_bounds-seqs_rise-end c = search (rules, front-count)

pub slice_bounds-seqs-end : goal.slice_bounds-seqs-end
slice_bounds-seqs-end c = search (rules, front-in)

pub slice_bounds-seqs_rise-end-2 : goal.slice_bounds-seqs_rise-end-2
slice_bounds-seqs_rise-end-2 c = search (rules, front-count)

pub seqs_rise-requires : goal.seqs_rise-requires
seqs_rise-requires c = (search (rules, fronts-even), search (rules, front-few))
