use Rattle.columns.proofs.Handed.{handed-on}
use native.Mathlib.Omega.{arith}
use Rattle.columns_encode.proofs.Laid.{late-refused, offsets-as-were, deltas-as-were, ready, late-counted, forward_offsets, forward_deltas, reverse_offsets}
use Rattle.columns_encode.proofs.Laid.{reverse_deltas, inbound_offsets, inbound_deltas}
use borrow.Author.Rules.{rules}
use Rattle.columns_encode.proofs.kept.encode_kept.Goals as goal

pub late_rules-requires-clause-in_bounds : goal.late_rules-requires-clause-in_bounds
late_rules-requires-clause-in_bounds c = (search rules, (search rules, search rules))

pub bounds-offs-rows : goal.bounds-offs-rows
bounds-offs-rows c = let late = c.late_rules.ensures in
    let kept = c.in_ok-late_rules.was in
    let long = (late.arranged kept).long in
    search rules

pub write_sets-requires-clause-ready : goal.write_sets-requires-clause-ready
write_sets-requires-clause-ready c =
    let late = c.late_rules.ensures in
    let kept = c.in_ok-late_rules.was in
    let count = c.index-m.ensures in
    ready _ _ _ _ _ _ _ _ _ late.value kept _ _ late.arranged _ count c.requires.early

pub write_sets-requires-clause-in_bounds : goal.write_sets-requires-clause-in_bounds
write_sets-requires-clause-in_bounds c = let work = c.requires.in_bounds in (omega (arith, work.0, c.offs-1.given), omega (arith, work.1.0, c.list-1.given))

pub write_sets-requires-clause-rooms : goal.write_sets-requires-clause-rooms
write_sets-requires-clause-rooms c = c.requires.rooms

pub returns-in_err-late_rules-clause-value : goal.returns-in_err-late_rules-clause-value
returns-in_err-late_rules-clause-value c = handed-on _ c.from_residual.ensures (search (late-refused, c.in_err-late_rules.was))

pub returns-in_err-late_rules-clause-fo_after : goal.returns-in_err-late_rules-clause-fo_after
returns-in_err-late_rules-clause-fo_after c = search (offsets-as-were, c.in_err-late_rules.was)

pub returns-in_err-late_rules-clause-fd_after : goal.returns-in_err-late_rules-clause-fd_after
returns-in_err-late_rules-clause-fd_after c = search (deltas-as-were, c.in_err-late_rules.was)

pub returns-in_err-late_rules-clause-ro_after : goal.returns-in_err-late_rules-clause-ro_after
returns-in_err-late_rules-clause-ro_after c = search (offsets-as-were, c.in_err-late_rules.was)

pub returns-in_err-late_rules-clause-rd_after : goal.returns-in_err-late_rules-clause-rd_after
returns-in_err-late_rules-clause-rd_after c = search (deltas-as-were, c.in_err-late_rules.was)

pub returns-in_err-late_rules-clause-io_after : goal.returns-in_err-late_rules-clause-io_after
returns-in_err-late_rules-clause-io_after c = search (offsets-as-were, c.in_err-late_rules.was)

pub returns-in_err-late_rules-clause-id_after : goal.returns-in_err-late_rules-clause-id_after
returns-in_err-late_rules-clause-id_after c = search (deltas-as-were, c.in_err-late_rules.was)

pub returns-clause-value : goal.returns-clause-value
returns-clause-value c =
    let late = c.late_rules.ensures in
    let kept = c.in_ok-late_rules.was in
    let count = c.index-m.ensures in
    let sets = c.write_sets.ensures in
    late-counted _ _ _ _ _ _ _ _ _ late.value kept _ _ late.arranged _ count _ sets.value

pub returns-clause-fo_after : goal.returns-clause-fo_after
returns-clause-fo_after c = search (forward_offsets, c.in_ok-late_rules.was)

pub returns-clause-fd_after : goal.returns-clause-fd_after
returns-clause-fd_after c = search (forward_deltas, c.in_ok-late_rules.was)

pub returns-clause-ro_after : goal.returns-clause-ro_after
returns-clause-ro_after c = search (reverse_offsets, c.in_ok-late_rules.was)

pub returns-clause-rd_after : goal.returns-clause-rd_after
returns-clause-rd_after c = search (reverse_deltas, c.in_ok-late_rules.was)

pub returns-clause-io_after : goal.returns-clause-io_after
returns-clause-io_after c =
    let late = c.late_rules.ensures in
    let kept = c.in_ok-late_rules.was in
    let count = c.index-m.ensures in
    let sets = c.write_sets.ensures in
    inbound_offsets _ _ _ _ _ _ _ _ _ late.value kept _ _ late.arranged _ count _ _ sets.io_after

pub returns-clause-id_after : goal.returns-clause-id_after
returns-clause-id_after c =
    let late = c.late_rules.ensures in
    let kept = c.in_ok-late_rules.was in
    let count = c.index-m.ensures in
    let sets = c.write_sets.ensures in
    inbound_deltas _ _ _ _ _ _ _ _ _ late.value kept _ _ late.arranged _ count _ _ sets.id_after
