use native.Mathlib.Omega.{arith}
use Rattle.run_records.proofs.Halves.{rows-room, unresolved-room, roots-room, middle-wrote}
use Rattle.run_records.proofs.files.put_middle.Goals as goal

pub put_rows-p-requires : goal.put_rows-p-requires
put_rows-p-requires c = let pre = c.requires in
    let span = pre.middle_ready.rows_in in
    (rows-room _ _ _ _ _ _ pre.roots_in_bounds, omega (arith, span.few), omega (arith, span.rises, span.there))

pub overflow_sub-s-3 : goal.overflow_sub-s-3
overflow_sub-s-3 c = omega (arith, c.requires.middle_ready.roots_in.rises)

pub put_roots-requires : goal.put_roots-requires
put_roots-requires c = let pre = c.requires in
    let span = pre.middle_ready.roots_in in
    let rows = c.put_rows-p.ensures in
    let unresolved = c.put_unresolved-q.ensures in
    (roots-room _ _ _ _ _ _ pre.roots_in_bounds rows.out_after rows.value unresolved.out_after unresolved.value, omega (arith, span.few), omega (arith, span.rises, span.there))

pub returns : goal.returns
returns c = let pre = c.requires in
    let rows = c.put_rows-p.ensures in
    let unresolved = c.put_unresolved-q.ensures in
    let roots = c.put_roots.ensures in
    middle-wrote _ _ _ _ _ _ pre.roots_in_bounds rows.out_after rows.value unresolved.out_after unresolved.value roots.out_after roots.value

pub put_unresolved-q-requires : goal.put_unresolved-q-requires
put_unresolved-q-requires c = let pre = c.requires in
    let span = pre.middle_ready.unresolved_in in
    let rows = c.put_rows-p.ensures in
    record {
      n_in_bounds = (unresolved-room _ _ _ _ _ _ pre.roots_in_bounds rows.out_after rows.value, omega (arith, span.few), omega (arith, span.rises, span.there));
      narrow_unresolved = pre.middle_ready.narrow;
    }
