use Rattle.cover_sort.proofs.labels.Joining.{labels-count, labels-put}
use Rattle.cover_sort.proofs.packing.Packed.{narrow}
use Rattle.cover_sort.proofs.labels.ranges_by.Goals as goal

pub returns-clause-value : goal.returns-clause-value
returns-clause-value c = labels-count _ _ _ c.put_sorted_keys.ensures c.requires.seqs_len.0 (narrow _ c.type_inv.seqs) c.join_runs.ensures.value

pub returns-clause-maxima_after : goal.returns-clause-maxima_after
returns-clause-maxima_after c =
    let needed = c.requires.chains_in_bounds in
    labels-put _ _ _ c.put_sorted_keys.ensures c.requires.seqs_len.0 (narrow _ c.type_inv.seqs) _ _ _ _ c.join_runs.ensures.maxima_after needed.0 needed.1.0 needed.1.1
