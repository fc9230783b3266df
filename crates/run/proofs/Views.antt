-- What a run stands for after a call, out of what holds of its columns.
use mathlib.Core.Path.{◌≡◌, sym, subst}
use mathlib.Core.Bool.{true}
use Rattle.columns.specs.Limits.{kinds}
use Rattle.columns.proofs.Served.{kinds-served}
use Rattle.lists.proofs.Tests.{both}
use Rattle.cleaning.specs.Held.{nothing}
use Rattle.cleaning.specs.Runs.{fresh_run}
use Rattle.cleaning.proofs.Neat.{Neat, neat-nothing}
use Rattle.run_state.specs.declared.Held.{Held}
use Rattle.run_state.specs.View.{held_in}
use Rattle.run_state.specs.Valid.{sheet_ok, held_ok}
use Rattle.run_state.specs.order.Ordered.{ordered}
use Rattle.run_state.specs.order.Long.{LongHeld}
use Rattle.run_state.proofs.order.TidySheets.{ordered_sheet}
use Rattle.run.specs.declared.Run.{Run}
use Rattle.run.specs.View.{holdable, phased, view}

-- valid columns that stand for what is neat are in order
order-neat : (h : Held) → LongHeld h → held_ok h ≡ true → Neat kinds (held_in h) → ordered h.sheet ≡ true
unfolding held_ok held_in
order-neat h l k n = ordered_sheet h.sheet l.sheet (both (sheet_ok h.sheet) _ k).0 n.tidy

-- those of a run that has taken nothing are
pub fresh-order : (h : Held) → LongHeld h → held_in h ≡ nothing → held_ok h ≡ true → ordered h.sheet ≡ true
fresh-order h l e k = order-neat h l k (subst (λ m. Neat kinds m) (sym e) (neat-nothing kinds kinds-served))

-- a run that holds nothing is fresh
pub fresh-run : (r : Run) → LongHeld r.held → held_in r.held ≡ nothing → held_ok r.held ≡ true → r.phase ≡ 0 → view r ≡ fresh_run
unfolding view phased holdable
fresh-run r l e k p = rw (k, fresh-order r.held l e k, p, e)
