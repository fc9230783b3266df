-- A run's step out of what resolving answers.
use Rattle.std.specs.Prelude.{Err, Ok, Result}
use mathlib.Core.Path.{◌≡◌, sym, ap, ap₂}
use mathlib.Core.Option.{some}
use Rattle.columns.specs.Limits.{kinds}
use Rattle.columns.specs.declared.refusal.Refusal.{Refusal}
use Rattle.cleaning.specs.Step.{refused, done}
use Rattle.cleaning.specs.Survivors.{survivor_sheet}
use Rattle.cleaning.specs.Runs.{taking, resolved, run_outcome, resolve_into, resolve_held}
use Rattle.run_state.specs.declared.Sheet.{Sheet}
use Rattle.run_state.specs.declared.Held.{Held}
use Rattle.run_state.specs.View.{sheet_in, held_in}
use Rattle.run_resolve.specs.Outcome.{new_in, rules_in, ResolvedTo, ResolvedBy}

module _ (h : Held) (r : Result Sheet Refusal) (k : ResolvedBy h r) where
  pub step_kept : (s : Sheet) → r ≡ Ok s → resolve_held kinds (held_in h) ≡ run_outcome (resolved (held_in h) (sheet_in s)) done
  unfolding resolve_held new_in rules_in
  step_kept s e = let m : ResolvedTo h s = rw e at k in ap₂ (resolve_into (held_in h)) (sym m.view) m.ruled

  pub step-refused : (x : Refusal) → r ≡ Err x → resolve_held kinds (held_in h) ≡ run_outcome (taking (held_in h)) (refused x)
  unfolding resolve_held new_in rules_in
  step-refused x e = let m : rules_in h ≡ some x = rw e at k in ap (resolve_into (held_in h) (survivor_sheet kinds (held_in h) (new_in h))) m
