-- The steps of a run, out of what is handed back for the columns that it holds: taking and resolving.
use Rattle.std.specs.Prelude.{Err, Ok, Result}
use mathlib.Core.Path.{◌≡◌, refl, sym, ap, ◌∙◌}
use mathlib.Core.Bool.{true, false, false≢true}
use mathlib.Core.List.{List}
use mathlib.Core.Option.{some}
use Prim.Native.Nat.{ℕ, zero, suc}
use native.Mathlib.Omega.{arith}
use lib.Dec.{ltb}
use borrow.Author.Tests.{lt-ltb}
use Rattle.columns.specs.Limits.{kinds}
use Rattle.lists.specs.Lists.{is_empty, up_from}
use Rattle.columns.specs.Refusal as verdict
use Rattle.columns.specs.Refusal.{Verdict}
use Rattle.columns.specs.declared.refusal.Refusal.{Refusal}
use Rattle.columns.specs.declared.refusal.Refusal.TheVariants.{GroupOrder}
use Rattle.columns.proofs.FirstBroken.{each_none, not-refused}
use Rattle.cleaning.specs.Step.{takes, resolves, refused, done}
use Rattle.cleaning.specs.Survivors.{survivor_sheet}
use Rattle.cleaning.specs.Runs.{taking, resolved, run_outcome, held_rules, run_step, resolve_held}
use Rattle.cleaning.specs.Held as run
use Rattle.cleaning.specs.Held.{hold_more}
use Rattle.archive.specs.Parse.{parse}
use Rattle.run_state.specs.declared.Sheet.{Sheet}
use Rattle.run_state.specs.declared.Held.{Held}
use Rattle.run_state.specs.View.{listed, facts_at, sheet_in, held_in}
use Rattle.run_state.specs.Valid.{held_ok}
use Rattle.run_state.specs.order.Ordered.{ordered}
use Rattle.run_take.specs.Took.{TookBy}
use Rattle.run_resolve.specs.Outcome.{rules_in, new_in, ResolvedTo, ResolvedBy}
use Rattle.run.specs.View.{grouped}

-- ── taking ───────────────────────────────────────────────────────────────────────────────────

-- an accepted taking: the step goes on to what is held now, fit for the next call
pub record TakenOn (h : Held) (bytes : List ℕ) (k : Held) : Type 0 where
  pub step : run_step kinds (taking (held_in h)) (takes bytes) ≡ run_outcome (taking (held_in k)) done
  pub valid : held_ok k ≡ true
  pub in_order : ordered k.sheet ≡ true

module _ (h : Held) (bytes : List ℕ) (t : Result Held Refusal) (m : TookBy (hold_more kinds (held_in h) (parse kinds bytes)) t) where
  pub taking-refused : (x : Refusal) → t ≡ Err x → run_step kinds (taking (held_in h)) (takes bytes) ≡ run_outcome (taking (held_in h)) (refused x)
  unfolding run_step
  taking-refused x d = go (hold_more kinds (held_in h) (parse kinds bytes)) refl m
    where
      go : (v : Verdict run.Held) → hold_more kinds (held_in h) (parse kinds bytes) ≡ v → TookBy v t
          → run_step kinds (taking (held_in h)) (takes bytes) ≡ run_outcome (taking (held_in h)) (refused x)
      go (verdict.refused y) f n = let z : y ≡ x = cc in rw (f, z)
      go (verdict.accepted k) f n = let z : ◌≡◌ {A = ℕ} 0 1 = cc in absurd (omega arith)

  module _ {k : Held} (d : t ≡ Ok k) where
    pub taking-done : TakenOn h bytes k
    unfolding run_step
    taking-done = go (hold_more kinds (held_in h) (parse kinds bytes)) refl m
      where
        go : (v : Verdict run.Held) → hold_more kinds (held_in h) (parse kinds bytes) ≡ v → TookBy v t → TakenOn h bytes k
        go (verdict.refused y) f n = let z : ◌≡◌ {A = ℕ} 0 1 = cc in absurd (omega arith)
        go (verdict.accepted j) f n = let z : n.0 ≡ k = cc in
            record { step = rw (f, ← n.2, z); valid = rw z at n.3; in_order = rw z at n.4 }

    -- what is held after it may be resolved
    pub taken-valid : held_ok k ≡ true
    taken-valid = taking-done.valid

    pub taken-order : ordered k.sheet ≡ true
    taken-order = taking-done.in_order

some-group : {A : Type 0} (f : ℕ → A) (n : ℕ) → is_empty (listed f n) ≡ false → ltb 0 n ≡ true
unfolding is_empty up_from
some-group f zero e = absurd (false≢true (sym e))
some-group f (suc n) e = lt-ltb 0 (suc n) (omega arith)

-- ── resolving ────────────────────────────────────────────────────────────────────────────────

module _ (h : Held) (q : Result Sheet Refusal) (m : ResolvedBy h q) where
  pub resolving-refused : (x : Refusal) → q ≡ Err x → run_step kinds (taking (held_in h)) resolves ≡ run_outcome (taking (held_in h)) (refused x)
  unfolding run_step resolve_held rules_in
  resolving-refused x d = let r : rules_in h ≡ some x = rw d at m in rw r

  module _ (s : Sheet) (d : q ≡ Ok s) where
    -- what is resolved
    pub resolved-to : ResolvedTo h s
    resolved-to = rw d at m

    pub resolving-done : run_step kinds (taking (held_in h)) resolves ≡ run_outcome (resolved (held_in h) (sheet_in s)) done
    unfolding run_step resolve_held rules_in new_in
    resolving-done = rw resolved-to.ruled (ap (λ t. run_outcome (resolved (held_in h) t) done) (sym resolved-to.view))

    -- it has a group
    pub resolved-grouped : grouped s ≡ true
    unfolding rules_in held_rules survivor_sheet sheet_in grouped
    resolved-grouped =
        let e = not-refused GroupOrder (is_empty (held_in h).sheet.groups) (each_none _ resolved-to.ruled).0 in
        some-group (facts_at s.groups) s.groups.count (ap is_empty (ap (λ t. t.groups) resolved-to.view) ∙ e)
