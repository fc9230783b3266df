use mathlib.Core.Path.{refl}
use Rattle.columns.proofs.Handed.{handed-on}
use Rattle.run_clean.proofs.Chain.{survivors-writable, is-refusal, then-written}
use Rattle.run_clean.proofs.clean.Goals as goal

pub write_sheet-requires : goal.write_sheet-requires
write_sheet-requires c = let k = survivors-writable _ _ c.survivors.ensures _ c.in_ok-s.was in
    (k.valid, (k.in_order, (k.whole, k.once)))

pub returns-in_err-s : goal.returns-in_err-s
returns-in_err-s c = search (is-refusal, c.in_err-s.was, handed-on _ c.from_residual.ensures refl)

pub returns : goal.returns
returns c = search (then-written, c.in_ok-s.was)
