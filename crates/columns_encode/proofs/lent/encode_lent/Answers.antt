use Rattle.columns.proofs.Handed.{handed-on}
use Rattle.columns_encode.proofs.WholeBuild.{early-given, rooms-given, whole-answer, whole-offsets, whole-deltas, whole-refused, whole-offsets-as-were, whole-deltas-as-were}
use Rattle.columns_encode.proofs.lent.encode_lent.Goals as goal

pub encode_kept-requires-clause-early : goal.encode_kept-requires-clause-early
encode_kept-requires-clause-early c = let early = c.early_rules.ensures in let kept = c.in_ok-early_rules.was in early-given _ _ _ _ _ _ _ _ _ _ _ _ _ _ _ early kept

pub encode_kept-requires-clause-rooms : goal.encode_kept-requires-clause-rooms
encode_kept-requires-clause-rooms c =
    let early = c.early_rules.ensures in
    let kept = c.in_ok-early_rules.was in
    let tight = c.are_sets_short-tight.ensures in
    rooms-given _ _ _ _ _ _ _ _ _ _ _ _ _ _ _ early kept _ _ _ _ _ _ tight

pub encode_kept-requires-clause-in_bounds : goal.encode_kept-requires-clause-in_bounds
encode_kept-requires-clause-in_bounds c = c.requires

pub returns-in_err-early_rules : goal.returns-in_err-early_rules
returns-in_err-early_rules c = record {
  answer = handed-on _ c.from_residual.ensures (search (whole-refused, c.in_err-early_rules.was));
  forward_offsets = search (whole-offsets-as-were, c.in_err-early_rules.was);
  forward_deltas = search (whole-deltas-as-were, c.in_err-early_rules.was);
  reverse_offsets = search (whole-offsets-as-were, c.in_err-early_rules.was);
  reverse_deltas = search (whole-deltas-as-were, c.in_err-early_rules.was);
  inbound_offsets = search (whole-offsets-as-were, c.in_err-early_rules.was);
  inbound_deltas = search (whole-deltas-as-were, c.in_err-early_rules.was);
}

pub returns : goal.returns
returns c = record {
  answer = search (whole-answer, c.in_ok-early_rules.was);
  forward_offsets = search (whole-offsets, c.in_ok-early_rules.was);
  forward_deltas = search (whole-deltas, c.in_ok-early_rules.was);
  reverse_offsets = search (whole-offsets, c.in_ok-early_rules.was);
  reverse_deltas = search (whole-deltas, c.in_ok-early_rules.was);
  inbound_offsets = search (whole-offsets, c.in_ok-early_rules.was);
  inbound_deltas = search (whole-deltas, c.in_ok-early_rules.was);
}
