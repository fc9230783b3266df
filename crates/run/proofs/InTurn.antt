-- The tests of a run's turn, and what a step out of turn answers.
use mathlib.Core.Path.{◌≡◌, refl, sym, ap, subst, ◌∙◌}
use mathlib.Core.Bool.{Bool, true, false, cond, not, false≢true}
use Prim.Native.Nat.{ℕ, zero, suc, ◌≤◌, ◌<◌}
use lib.Dec.{eqb}
use native.Mathlib.Omega.{arith}
use borrow.Author.Tests.{eq-eqb, ne_eqb, eqb-true, lt-ltb, le-ltb, not-true, not-false}
use Rattle.columns.specs.Limits.{kinds}
use Rattle.lists.proofs.Tests.{both}
use Rattle.columns.specs.declared.refusal.Refusal.TheVariants.{OutOfTurn}
use Rattle.cleaning.specs.Sheet as sheets
use Rattle.cleaning.specs.Held as held
use Rattle.cleaning.specs.Step.{Call, refused}
use Rattle.cleaning.specs.Runs.{RunState, taking, resolved, spoiled, run_outcome, run_step}
use Rattle.run_state.specs.View.{sheet_in, held_in}
use Rattle.run_state.specs.declared.Sheet.{Sheet}
use Rattle.run_state.specs.declared.Held.{Held}
use Rattle.run_state.specs.Valid.{counts_ok, sheet_ok, held_ok, once_ok}
use Rattle.run_state.specs.order.Ordered.{ordered, filled}
use Rattle.run.specs.declared.Run.{Run}
use Rattle.run.specs.View.{holdable, grouped, writable, phased, view, taking_by, resolved_by, is_taking, is_resolved}

module _ (h : Held) {a : Bool} (e : a ≡ held_ok h) where
  pub not-held : not a ≡ true → false ≡ holdable h
  unfolding holdable
  not-held k = rw (← e, not-true a k)

  module _ (k : not a ≡ false) where
    pub held-counts : counts_ok h.sheet ≡ true
    unfolding held_ok sheet_ok
    held-counts = (both (counts_ok h.sheet) _ (both (sheet_ok h.sheet) _ (sym e ∙ not-false a k)).0).0

    pub held-order : {b : Bool} → b ≡ ordered h.sheet → b ≡ holdable h
    unfolding holdable
    held-order f = rw (← e, not-false a k) f

module _ (s : Sheet) {a : Bool} (e : a ≡ sheet_ok s) where
  pub not-sheet : not a ≡ true → false ≡ writable s
  unfolding writable
  not-sheet k = rw (← e, not-true a k)

  module _ (k : not a ≡ false) where
    pub sheet-kept : sheet_ok s ≡ true
    sheet-kept = sym e ∙ not-false a k

    pub sheet-counts : counts_ok s ≡ true
    unfolding sheet_ok
    sheet-counts = (both (counts_ok s) _ sheet-kept).0

    pub no-group : s.groups.count < 1 → false ≡ writable s
    unfolding writable grouped
    no-group h = rw (← e, not-false a k, le-ltb 0 s.groups.count (omega arith))

    module _ (h : 1 ≤ s.groups.count) {b : Bool} (f : b ≡ ordered s) where
      pub not-ordered : not b ≡ true → false ≡ writable s
      unfolding writable grouped
      not-ordered m = rw (← e, not-false a k, lt-ltb 0 s.groups.count h, ← f, not-true b m)

      module _ (m : not b ≡ false) {d : Bool} (g : d ≡ filled s) where
        pub not-filled : not d ≡ true → false ≡ writable s
        unfolding writable grouped
        not-filled n = rw (← e, not-false a k, lt-ltb 0 s.groups.count h, ← f, not-false b m, ← g, not-true d n)

        pub then-once : not d ≡ false → {w : Bool} → w ≡ once_ok s → w ≡ writable s
        unfolding writable grouped
        then-once n o = rw (← e, not-false a k, lt-ltb 0 s.groups.count h, ← f, not-false b m, ← g, not-false d n) o

module _ (phase : ℕ) (a : Bool) where
  pub other-phase : (phase ≡ 0 → ⊥) → false ≡ taking_by phase a
  other-phase h = rw (ne_eqb phase 0 h)

  pub taking-if : phase ≡ 0 → a ≡ taking_by phase a
  taking-if h = rw (eq-eqb phase 0 h)

  module _ (b : Bool) where
    pub not-resolved : (phase ≡ 1 → ⊥) → false ≡ resolved_by phase a b
    not-resolved h = rw (ne_eqb phase 1 h)

    pub not-holdable : phase ≡ 1 → not a ≡ true → false ≡ resolved_by phase a b
    not-holdable h k = rw (eq-eqb phase 1 h, not-true a k)

    pub resolved-if : phase ≡ 1 → not a ≡ false → b ≡ resolved_by phase a b
    resolved-if h k = rw (eq-eqb phase 1 h, not-false a k)

-- a run, out of the tests of its parts
module _ (r : Run) {a b : Bool} (e : a ≡ holdable r.held) where
  pub taking-is : b ≡ taking_by r.phase a → b ≡ is_taking r
  unfolding is_taking
  taking-is f = rw (← e) f

  pub resolved-is : {w : Bool} → w ≡ writable r.sheet → b ≡ resolved_by r.phase a w → b ≡ is_resolved r
  unfolding is_resolved
  resolved-is g f = rw (← e, ← g) f

-- ── steps out of turn ────────────────────────────────────────────────────────────────────────

-- a call that answers 40 and changes nothing
abbrev pub OutOf : Call → RunState → Type 0
OutOf c s = run_step kinds s c ≡ run_outcome s (refused OutOfTurn)

module _ (r : Run) where
  -- what a run stands for, by its phase and its tests
  seen : (p : ℕ) → r.phase ≡ p → (h : Bool) → holdable r.held ≡ h → view r ≡ cond h (phased p r) spoiled
  unfolding view
  seen p e h k = rw (k) (ap (λ q. cond h (phased q r) spoiled) e)

  out_of : (c : Call) (s : RunState) → view r ≡ s → OutOf c s → OutOf c (view r)
  out_of c s e o = subst (λ t. OutOf c t) (sym e) o

  -- not taking: sources are neither taken nor resolved
  module _ (n : is_taking r ≡ false) (c : Call) (spoils : OutOf c spoiled) (late : (h : held.Held) (s : sheets.Sheet) → OutOf c (resolved h s)) where
    pub not-taking : OutOf c (view r)
    unfolding is_taking phased
    not-taking = go r.phase refl (holdable r.held) refl
      where
        by-sheet : (b : Bool) → OutOf c (cond b (resolved (held_in r.held) (sheet_in r.sheet)) spoiled)
        by-sheet true = late (held_in r.held) (sheet_in r.sheet)
        by-sheet false = spoils

        go : (p : ℕ) → r.phase ≡ p → (h : Bool) → holdable r.held ≡ h → OutOf c (view r)
        go p e false k = out_of c spoiled (seen p e false k) spoils
        go zero e true k = absurd (false≢true (sym n ∙ rw (e, k)))
        go (suc zero) e true k = out_of c (phased 1 r) (seen 1 e true k) (by-sheet (writable r.sheet))
        go (suc (suc p)) e true k = out_of c spoiled (seen (suc (suc p)) e true k) spoils

  -- not resolved: nothing is written, and nothing is asked
  module _ (n : is_resolved r ≡ false) (c : Call) (spoils : OutOf c spoiled) (early : (h : held.Held) → OutOf c (taking h)) where
    pub not-resolved-yet : OutOf c (view r)
    unfolding is_resolved phased
    not-resolved-yet = go r.phase refl (holdable r.held) refl
      where
        by-sheet : (b : Bool) → writable r.sheet ≡ b → r.phase ≡ 1 → holdable r.held ≡ true → OutOf c (cond b (resolved (held_in r.held) (sheet_in r.sheet)) spoiled)
        by-sheet true w e k = absurd (false≢true (sym n ∙ rw (e, k, w)))
        by-sheet false w e k = spoils

        go : (p : ℕ) → r.phase ≡ p → (h : Bool) → holdable r.held ≡ h → OutOf c (view r)
        go p e false k = out_of c spoiled (seen p e false k) spoils
        go zero e true k = out_of c (taking (held_in r.held)) (seen 0 e true k) (early (held_in r.held))
        go (suc zero) e true k = out_of c (phased 1 r) (seen 1 e true k) (by-sheet (writable r.sheet) refl e k)
        go (suc (suc p)) e true k = out_of c spoiled (seen (suc (suc p)) e true k) spoils

  -- ── steps in turn ────────────────────────────────────────────────────────────────────────────

  module _ (t : is_taking r ≡ true) where
    takes-now : (eqb r.phase 0 ≡ true) × (holdable r.held ≡ true)
    unfolding is_taking
    takes-now = both (eqb r.phase 0) _ t

    pub seen-taking : view r ≡ taking (held_in r.held)
    unfolding phased
    seen-taking = seen 0 (eqb-true r.phase 0 takes-now.0) true takes-now.1

    pub taking-valid : held_ok r.held ≡ true
    unfolding holdable
    taking-valid = (both (held_ok r.held) _ takes-now.1).0

    pub taking-order : ordered r.held.sheet ≡ true
    unfolding holdable
    taking-order = (both (held_ok r.held) _ takes-now.1).1

  module _ (t : is_resolved r ≡ true) where
    was-resolved : (eqb r.phase 1 ≡ true) × ((holdable r.held ≡ true) × (writable r.sheet ≡ true))
    unfolding is_resolved
    was-resolved = let a = both (eqb r.phase 1) _ t in (a.0, both (holdable r.held) _ a.1)

    pub seen-resolved : view r ≡ resolved (held_in r.held) (sheet_in r.sheet)
    unfolding phased
    seen-resolved = seen 1 (eqb-true r.phase 1 was-resolved.0) true was-resolved.1.0 ∙ rw was-resolved.1.1

    pub resolved-valid : held_ok r.held ≡ true
    unfolding holdable
    resolved-valid = (both (held_ok r.held) _ was-resolved.1.0).0

    pub resolved-order : ordered r.held.sheet ≡ true
    unfolding holdable
    resolved-order = (both (held_ok r.held) _ was-resolved.1.0).1

    sheet-tests : (sheet_ok r.sheet ≡ true) × ((ordered r.sheet ≡ true) × ((filled r.sheet ≡ true) × (once_ok r.sheet ≡ true)))
    unfolding writable
    sheet-tests =
        let a = both (sheet_ok r.sheet) _ was-resolved.1.1 in
        let b = both (ordered r.sheet) _ (both (grouped r.sheet) _ a.1).1 in
        (a.0, (b.0, both (filled r.sheet) _ b.1))

    pub survivors-valid : sheet_ok r.sheet ≡ true
    survivors-valid = sheet-tests.0

    pub survivors-order : ordered r.sheet ≡ true
    survivors-order = sheet-tests.1.0

    pub survivors-filled : filled r.sheet ≡ true
    survivors-filled = sheet-tests.1.1.0

    pub survivors-once : once_ok r.sheet ≡ true
    survivors-once = sheet-tests.1.1.1
