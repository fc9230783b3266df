-- The labels of a group in a tidy sheet: one for each of its rows where it has a cover, and else none.
use mathlib.Core.Path.{◌≡◌, refl, ap, sym, ◌∙◌}
use mathlib.Core.Bool.{true, false, beq, false≢true}
use mathlib.Core.List.{List, [], ◌∷◌, map}
use mathlib.Core.Option.{Option, none, some}
use Prim.Native.Nat.{ℕ, zero, suc, ◌+◌, ◌≤◌, ◌<◌}
use native.Mathlib.Omega.{arith}
use native.Mathlib.Nat.{not-suc-le-zero, le_of_suc-le-suc}
use lib.ListN.{length, get_or, length-map}
use borrow.Author.Tests.{eqb-true}
use Rattle.columns.specs.Limits.{Served}
use Rattle.lists.specs.Lists.{flat, part, up_from, Each}
use Rattle.lists.proofs.Tests.{both}
use Rattle.lists.proofs.Each.{each-imp, each_map}
use Rattle.lists.proofs.Pairs.{each-up_from}
use Rattle.columns.specs.Reading.{Label}
use Rattle.cleaning.specs.Source.{is_there}
use Rattle.cleaning.specs.Writing.{label_list}
use Rattle.cleaning.specs.Sheet.{Facts, Sheet, row_count}
use Rattle.cleaning.specs.Held.{no_facts}
use Rattle.cleaning.specs.Sections.{facts_of, labels_fit, Tidy, section_start, section_rows, section_labels}
use Rattle.cleaning.proofs.Taken.{beq-eq}
use Rattle.cleaning.proofs.Parts.{length_part, map-part}
use Rattle.cleaning.proofs.SheetRows.{section-end, section-within, group-row}

fit_at : (fs : List Facts) (gs : List ℕ) (ls : List (Option Label)) (i : ℕ) → labels_fit fs gs ls ≡ true → i < length gs
    → is_there (get_or ls i none) ≡ (get_or fs (get_or gs i 0) no_facts).covered
unfolding labels_fit
fit_at fs [] ls i h l = absurd (not-suc-le-zero l)
fit_at fs (g ∷ gs) [] i h l = absurd (false≢true h)
fit_at fs (g ∷ gs) (x ∷ ls) zero h l =
    beq-eq (is_there x) (get_or fs g no_facts).covered (both (beq (is_there x) (get_or fs g no_facts).covered) (labels_fit fs gs ls) h).0
fit_at fs (g ∷ gs) (x ∷ ls) (suc i) h l =
    fit_at fs gs ls i (both (beq (is_there x) (get_or fs g no_facts).covered) (labels_fit fs gs ls) h).1 (le_of_suc-le-suc l)

all_there : (ls : List (Option Label)) → Each (λ l. is_there l ≡ true) ls → map some (flat label_list ls) ≡ ls
all_there [] h = refl
all_there (none ∷ ls) h = absurd (false≢true h.0)
all_there (some l ∷ ls) h = ap (λ ms. some l ∷ ms) (all_there ls h.1)

none-there : (ls : List (Option Label)) → Each (λ l. is_there l ≡ false) ls → flat label_list ls ≡ []
none-there [] h = refl
none-there (none ∷ ls) h = none-there ls h.1
none-there (some l ∷ ls) h = absurd (false≢true (sym h.0))

module _ (K : ℕ) (served : Served K) (s : Sheet) (t : Tidy K s) (g : ℕ) where
  all-labels : length s.labels ≡ row_count s
  all-labels = eqb-true (length s.labels) (row_count s) t.each_label

  there : Each (λ l. is_there l ≡ (facts_of s g).covered) (part (section_start s g) (section_rows s g) s.labels)
  there =
      let a = section_start s g in
      let n = section_rows s g in
      let P : Option Label → Type 0 = λ l. is_there l ≡ (facts_of s g).covered in
      rw (← map-part s.labels none a n (omega (arith, all-labels, section-end K served s t g, section-within K served s t g)))
      (each_map P (λ i. get_or s.labels i none) (up_from a n)
      (each-imp (λ i. (a ≤ i) × (i < a + n)) (λ i. P (get_or s.labels i none)) (up_from a n)
      (λ i w. let m : i < section_start s (suc g) = omega (arith, section-end K served s t g, w.1) in
      fit_at s.groups s.row_groups s.labels i t.labelled
      (omega (arith, section-within K served s t g, eqb-true (length s.row_groups) (row_count s) t.each_group))
      ∙ ap (λ k. (facts_of s k).covered) (group-row K served s t g i w.0 m)) (each-up_from a n)))

  pub labels-covered : (facts_of s g).covered ≡ true → map some (section_labels s g) ≡ part (section_start s g) (section_rows s g) s.labels
  labels-covered e =
      all_there (part (section_start s g) (section_rows s g) s.labels)
      (each-imp (λ l. is_there l ≡ (facts_of s g).covered) (λ l. is_there l ≡ true) (part (section_start s g) (section_rows s g) s.labels) (λ l q. q ∙ e) there)

  pub labels-uncovered : (facts_of s g).covered ≡ false → section_labels s g ≡ []
  labels-uncovered e =
      none-there (part (section_start s g) (section_rows s g) s.labels)
      (each-imp (λ l. is_there l ≡ (facts_of s g).covered) (λ l. is_there l ≡ false) (part (section_start s g) (section_rows s g) s.labels) (λ l q. q ∙ e) there)

  -- as many labels as rows
  pub labels-count : (facts_of s g).covered ≡ true → length (section_labels s g) ≡ section_rows s g
  labels-count e =
      sym (length-map (section_labels s g) some) ∙ ap length (labels-covered e)
      ∙ length_part (section_start s g) (section_rows s g) s.labels (omega (arith, all-labels, section-end K served s t g, section-within K served s t g))
