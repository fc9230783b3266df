-- The cover is stored where the group has one.
use mathlib.Core.Path.{ap}
use mathlib.Core.Bool.{not}
use native.Mathlib.Omega.{arith}
use Rattle.run_records.proofs.Halves.{none-wrote, cover-room, cover-wrote}
use Rattle.run_records.proofs.files.put_last.Goals as goal

pub returns-then-not-covered : goal.returns-then-not-covered
returns-then-not-covered c = none-wrote _ _ _ _ _ _ _ _ (ap not c.if-not-covered.true)

pub put_cover-requires : goal.put_cover-requires
put_cover-requires c = let pre = c.requires in
    let ready = pre.last_ready in
    record {
      l_in_bounds = (
        cover-room _ _ _ _ _ _ _ _ (ap not c.if-not-covered.false) _ pre.links_in_bounds,
        omega (arith, ready.rows_in.few),
        omega (arith, ready.few),
        omega (arith, ready.links_in.few),
      );
      label_table = (ready.labels, ready.ranges_in, ready.linked);
    }

pub returns : goal.returns
returns c = let cover = c.put_cover.ensures in
    cover-wrote _ _ _ _ _ _ _ _ (ap not c.if-not-covered.false) cover.out_after cover.value
