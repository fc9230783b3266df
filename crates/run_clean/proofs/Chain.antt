-- One step after the other: what each return gives.
use Rattle.std.specs.Prelude.{Err, Ok, Result}
use mathlib.Core.Path.{◌≡◌, refl, sym, ap, ◌∙◌}
use mathlib.Core.Bool.{true}
use mathlib.Core.List.{List}
use Prim.Native.Nat.{ℕ}
use native.Mathlib.Omega.{arith}
use lib.ListN.{length}
use Rattle.columns.specs.Limits.{kinds}
use Rattle.lists.specs.Lists.{Each}
use Rattle.columns.specs.Refusal as verdict
use Rattle.columns.specs.declared.refusal.Refusal.{Refusal}
use Rattle.columns.specs.Answers.{ruling}
use Rattle.archive.specs.Fits.{FileFits}
use Rattle.archive.specs.Parse.{parse}
use Rattle.cleaning.specs.Step.{Call, takes, resolves, Bytes, Answer, refused, done, wrote}
use Rattle.cleaning.specs.Held.{nothing, hold_more}
use Rattle.cleaning.specs.History.{files_in}
use Rattle.cleaning.specs.Runs.{RunState, taking, run_outcome, fresh_run, run_step}
use Rattle.run_state.specs.declared.Sheet.{Sheet}
use Rattle.run_state.specs.declared.Held.{Held}
use Rattle.run_state.specs.Blank.{blank}
use Rattle.run_state.specs.View.{sheet_in, held_in}
use Rattle.run_state.specs.Valid.{sheet_ok, held_ok, once_ok}
use Rattle.run_state.specs.order.Long.{LongHeld}
use Rattle.run_state.specs.order.Ordered.{ordered, filled}
use Rattle.run_take.specs.Took.{archive_rules}
use Rattle.run_take.proofs.Answers.{not-held, rules-kept, is-archive, now-held}
use Rattle.run_resolve.specs.Outcome.{ResolvedBy}
use Rattle.run_write.specs.Answers.{Gives, Wrote}
use Rattle.run.specs.Promises.{written_from}
use Rattle.run.proofs.OverHeld.{resolving-refused, resolved-to, resolving-done}
use Rattle.run.proofs.Views.{fresh-order}
use Rattle.run_clean.specs.Cleans.{after, resolved_from, cleaned_from}
use Rattle.run_clean.specs.Survived.{Alone, Gathered, Survived, untaken, taken}

-- a call, then others
abbrev pub Then : Call → RunState → (RunState → ℕ → Answer) → ℕ → Answer
Then c s more room = after (run_step kinds s c).answer (more (run_step kinds s c).state room)

module _ {made : Bytes → Answer} (c : Call) (more : RunState → ℕ → Answer) (s : RunState) (was : List ℕ) where
  -- a refused call ends it
  pub stops : (x : Refusal) → run_step kinds s c ≡ run_outcome s (refused x) → Gives made (Then c s more) was was (Err x)
  stops x e = record { answers = ap (λ o. after o.answer (more o.state (length was))) (sym e); rest = refl; within = omega arith }

  -- an accepted one goes on
  pub goes : {n : RunState} {is : List ℕ} {r : Result ℕ Refusal} → run_step kinds s c ≡ run_outcome n done → Gives made (more n) was is r → Gives made (Then c s more) was is r
  goes e g = record { answers = g.answers ∙ ap (λ o. after o.answer (more o.state (length was))) (sym e); rest = g.rest; within = g.within }

-- ── the survivors may be written ─────────────────────────────────────────────────────────────

-- what is asked of a sheet that is written
pub record Writable (s : Sheet) : Type 0 where
  pub valid : sheet_ok s ≡ true
  pub in_order : ordered s ≡ true
  pub whole : filled s ≡ true
  pub once : once_ok s ≡ true

pub survivors-writable : (l : List ℕ) (q : Result Sheet Refusal) → Survived l q → (s : Sheet) → q ≡ Ok s → Writable s
survivors-writable l q (untaken x a b) s e = let z : ◌≡◌ {A = ℕ} 0 1 = cc in absurd (omega arith)
survivors-writable l q (taken h a b c m) s e = let k = resolved-to h q m s e in record { valid = k.valid; in_order = k.in_order; whole = k.whole; once = k.once }

-- ── the calls ────────────────────────────────────────────────────────────────────────────────

module _ (l was : List ℕ) where
  not_taken : (x : Refusal) → hold_more kinds nothing (parse kinds l) ≡ verdict.refused x → Gives wrote (cleaned_from l) was was (Err x)
  unfolding cleaned_from run_step
  not_taken x e = stops (takes l) resolved_from fresh_run was x (rw e)

  module _ (h : Held) (a : hold_more kinds nothing (parse kinds l) ≡ verdict.accepted (held_in h)) where
    then-resolved : {is : List ℕ} {r : Result ℕ Refusal} → Gives wrote (resolved_from (taking (held_in h))) was is r → Gives wrote (cleaned_from l) was is r
    unfolding cleaned_from run_step
    then-resolved g = goes (takes l) resolved_from fresh_run was (rw a) g

    module _ (q : Result Sheet Refusal) (m : ResolvedBy h q) where
      not-resolved : (x : Refusal) → q ≡ Err x → Gives wrote (cleaned_from l) was was (Err x)
      unfolding resolved_from
      not-resolved x e = then-resolved (stops resolves written_from (taking (held_in h)) was x (resolving-refused h q m x e))

      written : (s : Sheet) {is : List ℕ} {r : Result ℕ Refusal} → q ≡ Ok s → Wrote (sheet_in s) was is r → Gives wrote (cleaned_from l) was is r
      unfolding resolved_from written_from run_step
      written s e w = then-resolved (goes resolves written_from (taking (held_in h)) was (resolving-done h q m s e) w)

  module _ (q : Result Sheet Refusal) (k : Survived l q) where
    pub is-refusal : (x : Refusal) → q ≡ Err x → {r : Result ℕ Refusal} → r ≡ Err x → Gives wrote (cleaned_from l) was was r
    is-refusal x e i = rw i (go k)
      where
        go : Survived l q → Gives wrote (cleaned_from l) was was (Err x)
        go (untaken y a b) = let z : y ≡ x = cc in rw z at (not_taken y a)
        go (taken h a b c m) = not-resolved h a q m x e

    pub then-written : {s : Sheet} {is : List ℕ} {r : Result ℕ Refusal} → q ≡ Ok s → Wrote (sheet_in s) was is r → Gives wrote (cleaned_from l) was is r
    then-written {s} {is} {r} e w = go k
      where
        go : Survived l q → Gives wrote (cleaned_from l) was is r
        go (untaken x a b) = let z : ◌≡◌ {A = ℕ} 0 1 = cc in absurd (omega arith)
        go (taken h a b c m) = written h a q m s e w

-- ── the taking ───────────────────────────────────────────────────────────────────────────────

module _ (h : Held) (f : (held_in h ≡ nothing) × ((held_ok h ≡ true) × (h ≡ blank))) (l : List ℕ) {a : Result (Unit {0}) Refusal} (v : a ≡ ruling (archive_rules (held_in h) (parse kinds l))) where
  pub taking-stops : (x : Refusal) (r : Result Sheet Refusal) → a ≡ Err x → r ≡ Err x → Survived l r
  taking-stops x r e b = untaken x (ap (λ m. hold_more kinds m (parse kinds l)) (sym f.0) ∙ not-held h (parse kinds l) v e) b

  module _ (e : a ≡ Ok tt) where
    pub taken-alone : LongHeld h → Each (FileFits kinds) (files_in (parse kinds l)) → Alone h l
    taken-alone long fits = record {
      none = f.1.1;
      accepted = record { long = long; ok = f.1.0; order = fresh-order h long f.0 f.1.0; parsed = is-archive h (parse kinds l) v e; fits = fits; rules = rules-kept h (parse kinds l) v e };
    }

    pub taking-goes : (r : Result Sheet Refusal) → Gathered h l r → Survived l r
    taking-goes r g = taken g.held (ap (λ m. hold_more kinds m (parse kinds l)) (sym f.0) ∙ now-held h (parse kinds l) v e ∙ ap verdict.accepted (sym g.whole)) g.ok g.order g.resolved
