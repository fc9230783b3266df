use mathlib.Core.Path.{refl, sym}
use native.Mathlib.Omega.{arith}
use Rattle.columns.proofs.Handed.{handed-on}
use Rattle.run_section.proofs.Sectioned.{groups_count}
use Rattle.run_records.proofs.Going.{going-starts, going_on, going-ends, total-fits, all-broken}
use Rattle.run_records.proofs.lengths.measure.Goals as goal

pub loop-g-init : goal.loop-g-init
loop-g-init c = let ready = c.requires.ready in
    (omega arith, going-starts _ _ (sym (groups_count _ _ _ _ _ _ _ _ _)) ready.few.groups_count)

pub returns-in_err-total : goal.returns-in_err-total
returns-in_err-total c = all-broken _ _ _ _ c.measure_group.ensures c.loop-g-test.true _ c.in_err-total.was
    c.loop-g.invariant.1 (handed-on _ c.from_residual.ensures refl)

pub overflow_add-total : goal.overflow_add-total
overflow_add-total c = total-fits _ _ _ _ c.measure_group.ensures c.loop-g-test.true c.in_ok-total.was c.loop-g.invariant.1

pub loop-g-preserved : goal.loop-g-preserved
loop-g-preserved c = (
  omega (arith, c.loop-g-test.true),
  going_on _ _ _ _ c.measure_group.ensures c.loop-g-test.true c.in_ok-total.was
      c.loop-g.invariant.1,
)

pub returns : goal.returns
returns c = going-ends _ _ _ _ c.loop-g-test.false c.loop-g.invariant.1
