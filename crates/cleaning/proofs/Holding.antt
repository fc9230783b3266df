-- A run's calls over what it holds are its calls over its sources: the steps of specs/Runs are those of specs/Step.
use mathlib.Core.Path.{◌≡◌, refl, ap, ap₂, sym, ◌∙◌, subst}
use mathlib.Core.Bool.{not}
use mathlib.Core.List.{List, [], ◌∷◌, map, foldl, foldl-append}
use mathlib.Core.Option.{Option, none, some}
use Prim.Native.Nat.{ℕ}
use native.Mathlib.Omega.{arith}
use lib.ListN.{length}
use Rattle.columns.specs.Limits.{Served}
use Rattle.lists.specs.Lists.{is_empty, last}
use Rattle.columns.specs.Refusal.{unless}
use Rattle.columns.specs.declared.refusal.Refusal.{Refusal}
use Rattle.archive.specs.File.{File}
use Rattle.archive.specs.Reader.{Parsed, broken, got}
use Rattle.archive.specs.Parse.{parse}
use Rattle.cleaning.specs.Source.{Source, source_of, is_there}
use Rattle.cleaning.specs.Taking.{take_rules, taken_from}
use Rattle.cleaning.specs.Archive.{Taken, Archive, archive_of}
use Rattle.cleaning.specs.Cleaning.{mapped, reparented}
use Rattle.cleaning.specs.Memo.{tables}
use Rattle.cleaning.specs.Summary.{tabled}
use Rattle.cleaning.specs.Resolving.{resolve_rules}
use Rattle.cleaning.specs.Writing.{written}
use Rattle.cleaning.specs.Listed.{listed}
use Rattle.cleaning.specs.Step.{Call, takes, resolves, writes, maps, counts, lists, done, told, counted, State, taking, resolved, spoiled, Outcome, take_more}
use Rattle.cleaning.specs.Step.{resolve_by, write_into, list_into, resolve, step}
use Rattle.cleaning.specs.Sheet.{Sheet, summary_of}
use Rattle.cleaning.specs.Held.{Held, nothing, held_with, held_of, archive_held, hold_more}
use Rattle.cleaning.specs.Survivors.{survivor_sheet}
use Rattle.cleaning.specs.Runs.{RunState, RunOutcome, run_outcome, slotted, held_rules, resolve_into, resolve_held, take_into, run_step}
use Rattle.cleaning.proofs.Taken.{Followed}
use Rattle.cleaning.proofs.Invariant.{Inv}
use Rattle.cleaning.proofs.HeldRows.{HeldTo, not-empty, held_to, rows-held}
use Rattle.cleaning.proofs.HeldArchive.{archive-held}
use Rattle.cleaning.proofs.HeldLimits.{hold-rules}
use Rattle.cleaning.proofs.HeldColumns.{tables-length}
use Rattle.cleaning.proofs.SurvivorSheet.{summary-held}

-- the sheet of the survivors of sources, out of their tables
abbrev surviving : (K : ℕ) → Taken → List (List (List ℕ)) → Sheet
surviving K t ts = survivor_sheet K (held_of t.sources) (slotted (length (archive_of K t).events) ts)

-- what a run holds in a state
unfoldable pub hold : (K : ℕ) → State → RunState
hold K (taking t) = RunState.taking (held_of t.sources)
hold K (resolved t ts) = RunState.resolved (held_of t.sources) (surviving K t ts)
hold K spoiled = RunState.spoiled

abbrev pub hold_outcome : (K : ℕ) → Outcome → RunOutcome
hold_outcome K o = run_outcome (hold K o.state) o.answer

-- ── taking ───────────────────────────────────────────────────────────────────────────────────

take-held : (K : ℕ) (served : Served K) (t : Taken) (x : Parsed (List File)) → Followed K none t.sources
    → take_into (held_of t.sources) (hold_more K (held_of t.sources) x) ≡ hold_outcome K (take_more t (taken_from K t.sources x))
unfolding hold unless held_of
take-held K served t broken f = refl
take-held K served t (got fs end) f = rw (hold-rules K served t.sources f fs) (go (take_rules K t.sources fs))
  where
    go : (r : Option Refusal) → take_into (held_of t.sources) (unless r (foldl held_with (held_of t.sources) (map (source_of K) fs)))
        ≡ hold_outcome K (take_more t (unless r (map (source_of K) fs)))
    go none = ap (λ h. run_outcome (RunState.taking h) done) (sym (foldl-append held_with nothing t.sources (map (source_of K) fs)))
    go (some r) = refl

-- ── resolving ────────────────────────────────────────────────────────────────────────────────

no-groups : (K : ℕ) (served : Served K) (before : Option Source) (h : Held) → HeldTo K before h → is_empty h.sheet.groups ≡ not (is_there before)
unfolding nothing is_empty
no-groups K served none h e = rw e
no-groups K served (some s) h e = not-empty h.sheet.groups (omega (arith, e.groups))

no_last : (ss : List Source) → not (is_there (last ss)) ≡ is_empty ss
unfolding last is_empty
no_last [] = refl
no_last (s ∷ []) = refl
no_last (s ∷ (r ∷ rs)) = no_last (r ∷ rs)

module _ (K : ℕ) (served : Served K) (t : Taken) (f : Followed K none t.sources) where
  rules-held : (A : Archive) (ts : List (List (List ℕ))) → held_rules (held_of t.sources) A ts ≡ resolve_rules t A ts
  unfolding held_rules resolve_rules
  rules-held A ts = rw (no-groups K served (last t.sources) (held_of t.sources) (held_to K served t.sources f), no_last t.sources)

  resolve-held : resolve_held K (held_of t.sources) ≡ hold_outcome K (resolve K t)
  unfolding resolve_held resolve hold
  resolve-held = rw (archive-held K served t.sources f, rules-held (archive_of K t) (tables K (archive_of K t))) (go (resolve_rules t (archive_of K t) (tables K (archive_of K t))))
    where
      go : (r : Option Refusal) → resolve_into (held_of t.sources) (surviving K t (tables K (archive_of K t))) r ≡ hold_outcome K (resolve_by t (tables K (archive_of K t)) r)
      go none = refl
      go (some r) = refl

  -- ── writing ──────────────────────────────────────────────────────────────────────────────────

  surviving-tabled : summary_of K (surviving K t (tables K (archive_of K t))) ≡ tabled (archive_of K t) (tables K (archive_of K t))
  surviving-tabled =
      let h = held_of t.sources in
      subst (λ A. summary_of K (survivor_sheet K h (slotted (length A.events) (tables K A))) ≡ tabled A (tables K A)) (archive-held K served t.sources f)
      (summary-held K served h (tables K (archive_held K h)) (rows-held K served t.sources f) (tables-length K served (archive_held K h)))

-- ── every call ───────────────────────────────────────────────────────────────────────────────

followed_of : (K : ℕ) (served : Served K) (t : Taken) (ss : List Source) → t.sources ≡ ss → Followed K none ss → Followed K none t.sources
followed_of K served t ss e f = subst (Followed K none) (sym e) f

surviving-sheet : (K : ℕ) (served : Served K) (t : Taken) (ts : List (List (List ℕ))) (ss : List Source) → t.sources ≡ ss → Followed K none ss → ts ≡ tables K (archive_of K t)
    → summary_of K (surviving K t ts) ≡ tabled (archive_of K t) ts
surviving-sheet K served t ts ss e f k = ap (λ us. summary_of K (surviving K t us)) k ∙ surviving-tabled K served t (followed_of K served t ss e f) ∙ ap (tabled (archive_of K t)) (sym k)

pub run_step_lem : (K : ℕ) (served : Served K) (s : State) (c : Call) (ss : List Source) → Inv K s ss → run_step K (hold K s) c ≡ hold_outcome K (step K s c)
unfolding run_step step hold Inv
run_step_lem K served (taking t) (takes b) ss i = take-held K served t (parse K b) (followed_of K served t ss i.0 i.1)
run_step_lem K served (taking t) resolves ss i = resolve-held K served t (followed_of K served t ss i.0 i.1)
run_step_lem K served (taking t) (writes room) ss i = refl
run_step_lem K served (taking t) (maps p) ss i = refl
run_step_lem K served (taking t) counts ss i = refl
run_step_lem K served (taking t) (lists room) ss i = refl
run_step_lem K served (resolved t ts) (takes b) ss i = refl
run_step_lem K served (resolved t ts) resolves ss i = refl
run_step_lem K served (resolved t ts) (writes room) ss i =
    ap (λ S. run_outcome (RunState.resolved (held_of t.sources) (surviving K t ts)) (write_into room (written K S))) (surviving-sheet K served t ts ss i.0 i.1 i.2)
run_step_lem K served (resolved t ts) (maps p) ss i =
    ap (λ A. run_outcome (RunState.resolved (held_of t.sources) (surviving K t ts)) (told (mapped A p))) (archive-held K served t.sources (followed_of K served t ss i.0 i.1))
run_step_lem K served (resolved t ts) counts ss i =
    ap (λ A. run_outcome (RunState.resolved (held_of t.sources) (surviving K t ts)) (counted (reparented A))) (archive-held K served t.sources (followed_of K served t ss i.0 i.1))
run_step_lem K served (resolved t ts) (lists room) ss i =
    ap₂ (λ A S. run_outcome (RunState.resolved (held_of t.sources) (surviving K t ts)) (list_into (listed K room A S)))
    (archive-held K served t.sources (followed_of K served t ss i.0 i.1)) (surviving-sheet K served t ts ss i.0 i.1 i.2)
run_step_lem K served spoiled c ss i = refl
