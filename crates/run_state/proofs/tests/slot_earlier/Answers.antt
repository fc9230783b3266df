use Rattle.columns_rules.proofs.ParentTurns.{slot_in, next-in, slot_order, slot_inside}
use Rattle.run_state.proofs.ColumnTurns.{slot-told}
use Rattle.std.proofs.Common.{◌≤◌, length, arith, rules}
use Rattle.run_state.proofs.tests.slot_earlier.Goals as goal

pub bounds-offsets-s : goal.bounds-offsets-s
bounds-offsets-s c = search slot_in

pub bounds-offsets-s-2 : goal.bounds-offsets-s-2
bounds-offsets-s-2 c = search next-in

pub offset_bounds-targets-from : goal.offset_bounds-targets-from
offset_bounds-targets-from c =
    let ok = c.requires.offsets_value in
    let o = slot_order c.args.rows _ _ ok c.args.s c.requires.s_bound.0 _ _ c.index-from.ensures c.index-to.ensures in
    let i = slot_inside c.args.rows _ _ ok c.args.s c.requires.s_bound.0 _ _ c.index-from.ensures c.index-to.ensures in
    let b : c.index-from.result ≤ length c.args.targets.now = omega (arith, o, i) in
    search (rules, b)

pub slice_bounds-are_below-count : goal.slice_bounds-are_below-count
slice_bounds-are_below-count c = search slot_order

pub slice_bounds-are_below-start : goal.slice_bounds-are_below-start
slice_bounds-are_below-start c = search slot_order

pub slice_bounds-are_below-end : goal.slice_bounds-are_below-end
slice_bounds-are_below-end c = search slot_inside

pub returns : goal.returns
returns c =
    let o = slot_order c.args.rows _ _ c.requires.offsets_value c.args.s c.requires.s_bound.0 _ _ c.index-from.ensures c.index-to.ensures in
    slot-told c.args.rows _ _ c.requires.offsets_value c.args.s c.requires.s_bound.0 _ _ c.index-from.ensures c.index-to.ensures o _ _ (search rules) c.are_below.ensures
