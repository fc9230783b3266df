use mathlib.Core.Path.{refl}
use Rattle.columns.proofs.Handed.{handed-on}
use Rattle.run_list.proofs.Answered.{rows_fit, need-fits, list-refused, in_reach, list-short, list_all}
use Rattle.run_list.proofs.BySheet.{tabled}
use borrow.Author.Rules.{rules}
use Rattle.run_list.proofs.list_tables.Goals as goal

pub need_files-bytes-requires : goal.need_files-bytes-requires
need_files-bytes-requires c = let pre = c.requires in tabled _ _ _ _ _ _ _ _ _ pre.ready pre.children.0

pub overflow_mul-h : goal.overflow_mul-h
overflow_mul-h c = let pre = c.requires in search
    (rules, rows_fit _ pre.h_value.0 pre.h_value.1 c.held_long.ensures)

pub overflow_add-h : goal.overflow_add-h
overflow_add-h c = let pre = c.requires in search
    (rules, need-fits _ pre.h_value.0 pre.h_value.1 c.held_long.ensures c.need_files-bytes.ensures.1)

pub returns-then-out-h : goal.returns-then-out-h
returns-then-out-h c = let pre = c.requires in
    list-short _ pre.h_value.0 pre.h_value.1 c.held_long.ensures _ _ _ _ _ _ _ _ _ pre.ready pre.filled
    c.measure.ensures
    c.in_ok-measure.was pre.children.0 c.need_files-bytes.ensures.0 _ c.if-out-h.true

pub returns-in_err-measure : goal.returns-in_err-measure
returns-in_err-measure c = let pre = c.requires in
    list-refused _ pre.h_value.0 pre.h_value.1 c.held_long.ensures _ _ _ _ _ _ _ _ _ pre.ready pre.filled
    c.measure.ensures _ _ c.in_err-measure.was (handed-on _ c.from_residual.ensures refl)

pub returns : goal.returns
returns c = let pre = c.requires in
    list_all _ pre.h_value.0 pre.h_value.1 c.held_long.ensures _ _ _ _ _ _ _ _ _
    pre.ready pre.filled c.measure.ensures
    c.in_ok-measure.was pre.children.0
    c.need_files-bytes.ensures.0 c.if-out-h.false c.put_listing.ensures

pub put_listing-requires : goal.put_listing-requires
put_listing-requires c = let pre = c.requires in
    record {
      h_value = pre.h_value;
      tabled = (
        tabled _ _ _ _ _ _ _ _ _ pre.ready pre.children.0,
        in_reach _ pre.h_value.0 pre.h_value.1 c.held_long.ensures _ _ _ _ _ _ _ _ _ pre.ready pre.filled c.measure.ensures
            c.in_ok-measure.was pre.children.0,
      );
      kids_in_bounds = search rules;
    }
