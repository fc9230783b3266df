-- What was measured says which answer is written.
use mathlib.Core.List.{[]}
use mathlib.Core.Path.{refl}
use Rattle.columns.proofs.Handed.{handed-on}
use Rattle.run_section.proofs.Covering.{covers-counted}
use Rattle.run_write.proofs.Whole.{wrote-refused, wrote-short, wrote_all, has_room}
use Rattle.run_write.proofs.write_tables.Goals as goal

pub returns-then-out-n : goal.returns-then-out-n
returns-then-out-n c = let pre = c.requires in
    wrote-short _ pre.ready.tidy pre.filled c.measure.ensures _ c.in_ok-n.was c.if-out-n.true

pub returns-in_err-n : goal.returns-in_err-n
returns-in_err-n c = let pre = c.requires in
    wrote-refused _ pre.ready.tidy pre.filled c.measure.ensures _ _ c.in_err-n.was (handed-on _ c.from_residual.ensures refl)

pub returns : goal.returns
returns c = let pre = c.requires in
    wrote_all _ pre.ready.tidy pre.filled c.measure.ensures _
    c.in_ok-n.was c.if-out-n.false c.put_groups.ensures

pub measure-requires : goal.measure-requires
measure-requires c = let pre = c.requires in
    record { ready = pre.ready; children = (pre.children.0, covers-counted _ _ _ _ _ pre.children.1) }

pub put_groups-requires : goal.put_groups-requires
put_groups-requires c = let pre = c.requires in
    record {
      ready = pre.ready;
      children = pre.children;
      stores = pre.stores;
      targets_in_bounds = has_room _ pre.ready.tidy pre.filled c.measure.ensures [] c.in_ok-n.was c.if-out-n.false;
    }
