-- Each of a run's functions, return by return: the step of the call on what the run stands for.
use Rattle.std.specs.declared.option.Option as rust
use Rattle.std.specs.Prelude.{Err, None, Ok, Result, Some}
use mathlib.Core.Path.{◌≡◌, refl, sym, ap, subst, ◌∙◌}
use mathlib.Core.Bool.{Bool, true, false, not}
use mathlib.Core.List.{List}
use mathlib.Core.Option.{Option, none, some}
use Prim.Native.Nat.{ℕ}
use native.Mathlib.Omega.{arith}
use lib.ListN.{length}
use borrow.Author.Tests.{not-true, not-false}
use Rattle.columns.specs.Limits.{kinds}
use Rattle.columns.specs.declared.refusal.Refusal.{Refusal}
use Rattle.columns.specs.declared.refusal.Refusal.TheVariants.{OutOfTurn}
use Rattle.cleaning.specs.Step.{Call, takes, resolves, writes, maps, counts, lists, refused, done, told, counted}
use Rattle.cleaning.specs.Runs.{RunState, taking, resolved, run_outcome, run_step}
use Rattle.cleaning.specs.Held.{hold_more, archive_held}
use Rattle.cleaning.specs.Cleaning.{mapped, reparented}
use Rattle.archive.specs.Parse.{parse}
use Rattle.run_state.specs.View.{sheet_in, held_in}
use Rattle.run_state.specs.Valid.{sheet_ok, held_ok, once_ok}
use Rattle.run_state.specs.order.Ordered.{ordered, filled}
use Rattle.run_take.specs.Took.{TookBy}
use Rattle.run_state.specs.declared.Sheet.{Sheet}
use Rattle.run_state.specs.declared.Held.{Held}
use Rattle.run_resolve.specs.Outcome.{ResolvedBy}
use Rattle.run_resolve.specs.Map.{mapped_of}
use Rattle.run_write.specs.Answers.{Wrote}
use Rattle.run_list.specs.Listed as columns
use Rattle.run_list.specs.Listed.{Ready}
use Rattle.run.specs.View.{view, phased, holdable, grouped, writable, is_taking, is_resolved}
use Rattle.run.specs.Promises.{numbered, Steps, written_from, listed_from, Writes, Lists, Maps, Counts}
use Rattle.run.specs.declared.Run.{Run}
use Rattle.run.proofs.OverHeld.{taking-refused, taking-done, resolving-refused, resolved-to, resolving-done, resolved-grouped}
use Rattle.run.proofs.InTurn.{OutOf, not-taking, not-resolved-yet, seen-taking, seen-resolved, survivors-valid, survivors-order, survivors-filled, survivors-once}
use Rattle.run.proofs.InTurn.{resolved-valid, resolved-order, taking-valid, taking-order}

-- ── out of turn ──────────────────────────────────────────────────────────────────────────────

module _ (r : Run) {b : Bool} where
  module _ (e : b ≡ is_taking r) (k : not b ≡ true) where
    out-of-turn : (c : Call) → OutOf c (view r) → Steps c r r (Err OutOfTurn)
    out-of-turn c o = record { state = sym (ap (λ x. x.state) o); answer = sym (ap (λ x. x.answer) o); kept = refl }

    pub take-late : (bytes : List ℕ) → Steps (takes bytes) r r (Err OutOfTurn)
    unfolding run_step
    take-late bytes = out-of-turn (takes bytes) (not-taking r (sym e ∙ not-true b k) (takes bytes) refl (λ h s. refl))

    pub resolve-late : Steps resolves r r (Err OutOfTurn)
    unfolding run_step
    resolve-late = out-of-turn resolves (not-taking r (sym e ∙ not-true b k) resolves refl (λ h s. refl))

  module _ (e : b ≡ is_resolved r) (k : not b ≡ true) where
    pub write-early : (was : List ℕ) → Writes r was was (Err OutOfTurn)
    unfolding run_step written_from
    write-early was = record { answers = sym (ap (λ o. o.answer) (not-resolved-yet r (sym e ∙ not-true b k) (writes (length was)) refl (λ h. refl))); rest = refl; within = omega arith }

    pub list-early : (was : List ℕ) → Lists r was was (Err OutOfTurn)
    unfolding run_step listed_from
    list-early was = record { answers = sym (ap (λ o. o.answer) (not-resolved-yet r (sym e ∙ not-true b k) (lists (length was)) refl (λ h. refl))); rest = refl; within = omega arith }

    pub map-early : (old : ℕ) → Maps r old (Err OutOfTurn)
    unfolding run_step
    map-early old = not-resolved-yet r (sym e ∙ not-true b k) (maps old) refl (λ h. refl)

    pub count-early : Counts r (Err OutOfTurn)
    unfolding run_step
    count-early = not-resolved-yet r (sym e ∙ not-true b k) counts refl (λ h. refl)

-- ── answers as options ───────────────────────────────────────────────────────────────────────

told-mapped : (o : Option ℕ) → numbered (Ok (mapped_of o)) ≡ told o
unfolding mapped_of
told-mapped none = refl
told-mapped (some n) = refl

-- ── a resolved run ───────────────────────────────────────────────────────────────────────────

module _ (r : Run) {b : Bool} (e : b ≡ is_resolved r) (k : not b ≡ false) where
  is-resolved : is_resolved r ≡ true
  is-resolved = sym e ∙ not-false b k

  pub sheet-valid : sheet_ok r.sheet ≡ true
  sheet-valid = survivors-valid r is-resolved

  pub sheet-order : ordered r.sheet ≡ true
  sheet-order = survivors-order r is-resolved

  pub sheet-filled : filled r.sheet ≡ true
  sheet-filled = survivors-filled r is-resolved

  pub sheet-once : once_ok r.sheet ≡ true
  sheet-once = survivors-once r is-resolved

  pub held-valid : held_ok r.held ≡ true
  held-valid = resolved-valid r is-resolved

  pub held-order : ordered r.held.sheet ≡ true
  held-order = resolved-order r is-resolved

  -- a question or a write, by what it answers of the resolved state
  by_state : (c : Call) (s : RunState) → view r ≡ s → run_step kinds s c ≡ run_outcome s (run_step kinds s c).answer → run_step kinds (view r) c ≡ run_outcome (view r) (run_step kinds s c).answer
  by_state c s v o = subst (λ x. run_step kinds x c ≡ run_outcome x (run_step kinds s c).answer) (sym v) o

  pub map-now : {a : rust.Option ℕ} (old : ℕ) → a ≡ mapped_of (mapped (archive_held kinds (held_in r.held)) old) → Maps r old (Ok a)
  unfolding run_step
  map-now old m = by_state (maps old) _ (seen-resolved r is-resolved) refl ∙ ap (run_outcome (view r)) (sym (ap (λ x. numbered (Ok x)) m ∙ told-mapped _))

  pub count-now : {n : ℕ} → n ≡ reparented (archive_held kinds (held_in r.held)) → Counts r (Ok n)
  unfolding run_step
  count-now f = by_state counts _ (seen-resolved r is-resolved) refl ∙ ap (λ k. run_outcome (view r) (counted k)) (sym f)

  pub write-now : {is : List ℕ} {a : Result ℕ Refusal} (was : List ℕ) → Wrote (sheet_in r.sheet) was is a → Writes r was is a
  unfolding run_step written_from
  write-now was w = record { answers = w.answers ∙ ap (λ s. written_from s (length was)) (sym (seen-resolved r is-resolved)); rest = w.rest; within = w.within }

  pub list-ready : Ready r.held r.sheet
  list-ready = record { held_valid = held-valid; held_order = held-order; valid = sheet-valid; in_order = sheet-order; whole = sheet-filled; once = sheet-once }

  pub list-now : {is : List ℕ} {a : Result ℕ Refusal} (was : List ℕ) → columns.Lists (held_in r.held) (sheet_in r.sheet) was is a → Lists r was is a
  unfolding run_step listed_from
  list-now was w = record { answers = w.answers ∙ ap (λ s. listed_from s (length was)) (sym (seen-resolved r is-resolved)); rest = w.rest; within = w.within }

-- ── what a run stands for after a step ───────────────────────────────────────────────────────

-- columns that are valid and in order are taken up by a run that takes sources
now-taking : (r : Run) → r.phase ≡ 0 → held_ok r.held ≡ true → ordered r.held.sheet ≡ true → view r ≡ taking (held_in r.held)
unfolding view phased holdable
now-taking r p k o = rw (k, o, p)

-- with the survivors' columns it is resolved
now-resolved : (r : Run) → r.phase ≡ 1 → held_ok r.held ≡ true → ordered r.held.sheet ≡ true → sheet_ok r.sheet ≡ true → grouped r.sheet ≡ true
    → ordered r.sheet ≡ true → filled r.sheet ≡ true → once_ok r.sheet ≡ true → view r ≡ resolved (held_in r.held) (sheet_in r.sheet)
unfolding view phased holdable writable
now-resolved r p k o l g q f n = rw (k, o, p, l, g, q, f, n)

-- ── taking ───────────────────────────────────────────────────────────────────────────────────

module _ (r : Run) {b : Bool} (e : b ≡ is_taking r) (k : not b ≡ false) where
  is-taking : is_taking r ≡ true
  is-taking = sym e ∙ not-false b k

  pub sources-valid : held_ok r.held ≡ true
  sources-valid = taking-valid r is-taking

  pub sources-order : ordered r.held.sheet ≡ true
  sources-order = taking-order r is-taking

  -- a refused step of a run that takes sources leaves it as it is
  stays : (c : Call) (x : Refusal) → run_step kinds (taking (held_in r.held)) c ≡ run_outcome (taking (held_in r.held)) (refused x) → Steps c r r (Err x)
  stays c x o =
      let z : run_step kinds (view r) c ≡ run_outcome (view r) (refused x) =
      subst (λ s. run_step kinds s c ≡ run_outcome s (refused x)) (sym (seen-taking r is-taking)) o in
      record { state = sym (ap (λ s. s.state) z); answer = sym (ap (λ s. s.answer) z); kept = refl }

  -- an accepted one goes on to another run
  goes : (c : Call) (after : Run) → run_step kinds (taking (held_in r.held)) c ≡ run_outcome (view after) done → Steps c r after (Ok tt)
  goes c after o =
      let z : run_step kinds (view r) c ≡ run_outcome (view after) done = ap (λ s. run_step kinds s c) (seen-taking r is-taking) ∙ o in
      record { state = sym (ap (λ s. s.state) z); answer = sym (ap (λ s. s.answer) z); kept = tt }

  module _ (t : Result Held Refusal) (bytes : List ℕ) (m : TookBy (hold_more kinds (held_in r.held) (parse kinds bytes)) t) where
    pub take_refused : (x : Refusal) → t ≡ Err x → Steps (takes bytes) r r (Err x)
    take_refused x d = stays (takes bytes) x (taking-refused r.held bytes t m x d)

    pub take_done : {h : Held} → t ≡ Ok h → Steps (takes bytes) r (record { phase = 0; held = h; sheet = r.sheet }) (Ok tt)
    take_done d =
        let n = taking-done r.held bytes t m d in
        goes (takes bytes) _ (n.step ∙ ap (λ s. run_outcome s done) (sym (now-taking _ refl n.valid n.in_order)))

-- ── resolving ────────────────────────────────────────────────────────────────────────────────

module _ (r : Run) {b : Bool} (e : b ≡ is_taking r) (k : not b ≡ false) (q : Result Sheet Refusal) (m : ResolvedBy r.held q) where
  pub resolve-refused : (x : Refusal) → q ≡ Err x → Steps resolves r r (Err x)
  resolve-refused x d = stays r e k resolves x (resolving-refused r.held q m x d)

  pub resolve-done : {s : Sheet} → q ≡ Ok s → Steps resolves r (record { phase = 1; held = r.held; sheet = s }) (Ok tt)
  resolve-done {s} d =
      let n = resolved-to r.held q m s d in
      goes r e k resolves _
      (resolving-done r.held q m s d
      ∙ ap (λ t. run_outcome t done) (sym (now-resolved _ refl (sources-valid r e k) (sources-order r e k) n.valid (resolved-grouped r.held q m s d) n.in_order n.whole n.once)))
