-- The rules of a file, one after another.
use Rattle.std.specs.Prelude.{Err, Result}
use Prim.Native.Nat.{ℕ, ◌+◌, ◌-◌, ◌<◌}
use Rattle.columns.specs.Building.{subject_ok, numbers_ok, slot_rules}
use Rattle.columns.specs.EdgeSet.{offsets_form, cut}
use Rattle.columns.specs.Limits.{kinds, end64}
use Rattle.columns.specs.Refusal.{first_of}
use Rattle.columns.specs.declared.refusal.Refusal.{Refusal}
use Rattle.columns.specs.declared.refusal.Refusal.TheVariants.{SubjectLength, EdgeEntries, NumberRange}
use Rattle.lists.proofs.Tests.{tested}
use Rattle.columns.proofs.Told.{last-rule}
use Rattle.columns.specs.Answers.{ruling}
use Rattle.columns_rules.specs.Ruled.{file_rules}
use borrow.Author.Tests.{lt-ltb, le-ltb, leb-true, leb-false, not-true, not-false, ltb-true}
use lib.Dec.{leb}
use lib.ListN.{length}
use mathlib.Core.Bool.{Bool, true, false, not}
use mathlib.Core.List.{List}
use mathlib.Core.Logic.{inl, inr}
use mathlib.Core.Path.{◌≡◌, sym, ◌∙◌, ap}
use mir.Syntax.{w64}
use mir.Val.{Fits}
use native.Mathlib.Omega.{arith}

-- ── single tests ─────────────────────────────────────────────────────────────────────────────

pub no-subject : (s : List ℕ) → length s ≡ 0 → false ≡ subject_ok s
unfolding subject_ok
no-subject s h = rw (le-ltb 0 (length s) (omega arith))

pub some-subject : (s : List ℕ) → (length s ≡ 0 → ⊥) → leb (length s) 255 ≡ subject_ok s
unfolding subject_ok
some-subject s h = rw (lt-ltb 0 (length s) (let z : 0 < length s = omega arith in z))

pub numbers-are : (first rows : ℕ) → Fits w64 rows → leb first (18446744073709551615 - rows) ≡ numbers_ok first rows
unfolding numbers_ok
numbers-are first rows f = elim (tested (leb first (18446744073709551615 - rows))) [
  | inl e ↦ let h = leb-true first (18446744073709551615 - rows) e in let g : rows < 18446744073709551616 = f.fits in
      rw (e, lt-ltb (first + rows) 18446744073709551616 (omega arith))
  | inr e ↦ let h = leb-false first (18446744073709551615 - rows) e in
      rw (e, le-ltb (first + rows) 18446744073709551616 (omega arith))
]

-- ── 1 to 5 ───────────────────────────────────────────────────────────────────────────────────

module _ (subject : List ℕ) (first rows : ℕ) (offsets targets : List ℕ) {a : Bool} (e : a ≡ subject_ok subject) where
  pub subject-bad : not a ≡ true → Err SubjectLength ≡ ruling (file_rules subject first rows offsets targets)
  unfolding file_rules first_of
  subject-bad p = rw (← e, not-true a p)

  module _ (p : not a ≡ false) {b : Bool} (f : b ≡ offsets_form kinds rows (length targets) offsets) where
    pub entries-bad : not b ≡ true → Err EdgeEntries ≡ ruling (file_rules subject first rows offsets targets)
    unfolding file_rules first_of
    entries-bad q = rw (← e, not-false a p, ← f, not-true b q)

    module _ (q : not b ≡ false) {d : Bool} (g : d ≡ numbers_ok first rows) where
      pub numbers-bad : not d ≡ true → Err NumberRange ≡ ruling (file_rules subject first rows offsets targets)
      unfolding file_rules first_of
      numbers-bad r = rw (← e, not-false a p, ← f, not-false b q, ← g, not-true d r)

      pub then-parents : not d ≡ false → {s : Result (Unit {0}) Refusal} → s ≡ ruling (slot_rules kinds first 0 (cut offsets targets)) → s ≡ ruling (file_rules subject first rows offsets targets)
      unfolding file_rules first_of
      then-parents r k = rw (← e, not-false a p, ← f, not-false b q, ← g, not-false d r) (k ∙ ap ruling (sym (last-rule (slot_rules kinds first 0 (cut offsets targets)))))

pub entries-good : (rows count : ℕ) (offsets : List ℕ) {b : Bool} → b ≡ offsets_form kinds rows count offsets → not b ≡ false → offsets_form kinds rows count offsets ≡ true
entries-good rows count offsets {b} f q = sym f ∙ not-false b q

pub numbers-good : (first rows : ℕ) {d : Bool} → d ≡ numbers_ok first rows → not d ≡ false → first + rows < end64
unfolding numbers_ok
numbers-good first rows {d} g q = ltb-true (first + rows) end64 (sym g ∙ not-false d q)
