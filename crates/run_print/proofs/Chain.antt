-- One step after the other: what each return gives.
use Rattle.std.specs.Prelude.{Err, Ok, Result}
use mathlib.Core.Path.{◌≡◌, refl, ◌∙◌}
use mathlib.Core.Bool.{true}
use mathlib.Core.List.{List}
use Prim.Native.Nat.{ℕ, ◌≤◌, ◌<◌}
use native.Mathlib.Omega.{arith}
use lib.ListN.{length}
use borrow.Author.Tests.{lt-ltb, le-ltb}
use Rattle.columns.specs.Limits.{kinds}
use Rattle.columns.specs.declared.refusal.Refusal.{Refusal}
use Rattle.columns.specs.declared.refusal.Refusal.TheVariants.{SliceShort}
use Rattle.archive.specs.Parse.{parse}
use Rattle.cleaning.specs.Step.{takes, resolves, printed}
use Rattle.cleaning.specs.Held.{nothing, hold_more}
use Rattle.cleaning.specs.Runs.{taking, fresh_run, run_step}
use Rattle.run_state.specs.declared.Held.{Held}
use Rattle.run_state.specs.View.{sheet_in, held_in}
use Rattle.run_state.specs.Valid.{held_ok}
use Rattle.run_state.specs.order.Ordered.{ordered}
use Rattle.run_take.specs.Took.{TookBy}
use Rattle.run_resolve.specs.Outcome.{ResolvedBy}
use Rattle.run_state.specs.declared.Sheet.{Sheet}
use Rattle.run_write.specs.Answers.{Gives}
use Rattle.run_list.specs.Listed.{Ready, Lists}
use Rattle.run.specs.Promises.{listed_from}
use Rattle.run.proofs.OverHeld.{taking-refused, taking-done, resolving-refused, resolved-to, resolving-done}
use Rattle.run_clean.proofs.Chain.{stops, goes}
use Rattle.run_print.specs.Whole.{resolved_list, taken_list, listing_from}

-- ── resolving, then listing ──────────────────────────────────────────────────────────────────

module _ (h : Held) (q : Result Sheet Refusal) (m : ResolvedBy h q) where
  pub unresolved : (was : List ℕ) (x : Refusal) → q ≡ Err x → {r : Result ℕ Refusal} → r ≡ Err x → Gives printed (resolved_list (taking (held_in h))) was was r
  unfolding resolved_list
  unresolved was x e i = rw i (stops resolves listed_from (taking (held_in h)) was x (resolving-refused h q m x e))

  module _ (s : Sheet) (d : q ≡ Ok s) where
    pub list-ready : held_ok h ≡ true → ordered h.sheet ≡ true → Ready h s
    list-ready k o = let n = resolved-to h q m s d in
        record { held_valid = k; held_order = o; valid = n.valid; in_order = n.in_order; whole = n.whole; once = n.once }

    pub then-listed : {was is : List ℕ} {w : Result ℕ Refusal} → Lists (held_in h) (sheet_in s) was is w
        → Gives printed (resolved_list (taking (held_in h))) was is w
    unfolding resolved_list listed_from run_step
    then-listed {was} v = goes resolves listed_from (taking (held_in h)) was (resolving-done h q m s d) v

-- ── the whole ────────────────────────────────────────────────────────────────────────────────

module _ (bytes was : List ℕ) where
  pub too_long : 65536 < length bytes → Gives printed (listing_from bytes) was was (Err SliceShort)
  unfolding listing_from
  too_long g = record { answers = rw (lt-ltb 65536 (length bytes) g); rest = refl; within = omega arith }

  module _ (g : length bytes ≤ 65536) (k : Held) (f : held_in k ≡ nothing) (t : Result Held Refusal) (m : TookBy (hold_more kinds (held_in k) (parse kinds bytes)) t) where
    -- what follows the taking is the listing
    short : {is : List ℕ} {r : Result ℕ Refusal} → Gives printed (taken_list bytes) was is r → Gives printed (listing_from bytes) was is r
    unfolding listing_from
    short p = record { answers = p.answers ∙ rw (le-ltb 65536 (length bytes) g); rest = p.rest; within = p.within }

    pub untaken : (x : Refusal) → t ≡ Err x → {r : Result ℕ Refusal} → r ≡ Err x → Gives printed (listing_from bytes) was was r
    unfolding taken_list
    untaken x e i = rw i (short (stops (takes bytes) resolved_list fresh_run was x (rw f at (taking-refused k bytes t m x e))))

    pub then-resolved : {is : List ℕ} {r : Result ℕ Refusal} {j : Held} → t ≡ Ok j → Gives printed (resolved_list (taking (held_in j))) was is r
        → Gives printed (listing_from bytes) was is r
    unfolding taken_list
    then-resolved e p = short (goes (takes bytes) resolved_list fresh_run was (rw f at (taking-done k bytes t m e).step) p)
