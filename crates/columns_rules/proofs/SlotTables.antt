-- Slot offsets in the right form: where each slot starts and ends, and which list they cut out of a column.
use mathlib.Core.Path.{◌≡◌}
use mathlib.Core.Bool.{true}
use mathlib.Core.List.{List, [], ◌∷◌}
use Prim.Native.Nat.{ℕ, zero, suc, ◌+◌, ◌*◌, ◌≤◌, ◌<◌}
use native.Mathlib.Numerals.{add-one}
use native.Mathlib.Nat.{not-suc-le-zero, le_of_suc-le-suc}
use native.Mathlib.Omega.{arith}
use lib.Dec.{leb, eqb}
use lib.ListN.{length, get_or}
use lib.Seq.{slice}
use borrow.Author.Tests.{leb-true, eqb-true}
use Rattle.columns.specs.Limits.{kinds}
use Rattle.lists.specs.Order.{climbs_to}
use Rattle.lists.proofs.Tests.{both}
use Rattle.columns.specs.EdgeSet.{from_to, offsets_form, cut}
use Rattle.columns.proofs.Offsets.{cut-length, cut_at}

-- ── what the form says ───────────────────────────────────────────────────────────────────────

climbs-bound : (high x : ℕ) (xs : List ℕ) → climbs_to high x xs ≡ true → (i : ℕ) → i ≤ length xs → get_or (x ∷ xs) i 0 ≤ high
unfolding climbs_to
climbs-bound high x [] e zero h = omega (arith, eqb-true x high e)
climbs-bound high x [] e (suc i) h = absurd (not-suc-le-zero h)
climbs-bound high x (y ∷ ys) e zero h =
    let p = both (leb x y) (climbs_to high y ys) e in
    omega (arith, leb-true x y p.0, climbs-bound high y ys p.1 0 (omega arith))
climbs-bound high x (y ∷ ys) e (suc i) h = climbs-bound high y ys (both (leb x y) (climbs_to high y ys) e).1 i (le_of_suc-le-suc h)

climbs-step : (high x : ℕ) (xs : List ℕ) → climbs_to high x xs ≡ true → (i : ℕ) → i < length xs → get_or (x ∷ xs) i 0 ≤ get_or (x ∷ xs) (suc i) 0
unfolding climbs_to
climbs-step high x [] e i h = absurd (not-suc-le-zero h)
climbs-step high x (y ∷ ys) e zero h = leb-true x y (both (leb x y) (climbs_to high y ys) e).0
climbs-step high x (y ∷ ys) e (suc i) h = climbs-step high y ys (both (leb x y) (climbs_to high y ys) e).1 i (le_of_suc-le-suc h)

climbs-last : (high x : ℕ) (xs : List ℕ) → climbs_to high x xs ≡ true → get_or (x ∷ xs) (length xs) 0 ≡ high
unfolding climbs_to
climbs-last high x [] e = eqb-true x high e
climbs-last high x (y ∷ ys) e = climbs-last high y ys (both (leb x y) (climbs_to high y ys) e).1

pub record Table (slots count : ℕ) (offsets : List ℕ) : Type 0 where
  pub long : length offsets ≡ slots + 1
  pub low : get_or offsets 0 0 ≡ 0
  pub rise : (s : ℕ) → s < slots → get_or offsets s 0 ≤ get_or offsets (s + 1) 0
  pub bound : (s : ℕ) → s ≤ slots → get_or offsets s 0 ≤ count
  pub high : get_or offsets slots 0 ≡ count

pub table_of : (rows count : ℕ) (offsets : List ℕ) → offsets_form kinds rows count offsets ≡ true → Table (2 * rows) count offsets
unfolding offsets_form from_to
table_of rows count [] e =
    let p = both (eqb 0 (2 * rows + 1)) (from_to 0 count []) e in
    absurd (let z : 0 ≡ 2 * rows + 1 = eqb-true 0 (2 * rows + 1) p.0 in omega arith)
table_of rows count (x ∷ xs) e =
    let p = both (eqb (length (x ∷ xs)) (2 * rows + 1)) (from_to 0 count (x ∷ xs)) e in
    let l : length (x ∷ xs) ≡ 2 * rows + 1 = eqb-true (length (x ∷ xs)) (2 * rows + 1) p.0 in
    let q = both (eqb x 0) (climbs_to count x xs) p.1 in
    let n : length xs ≡ 2 * rows = omega arith in
    record {
      long = l;
      low = eqb-true x 0 q.0;
      rise = λ s h. rw add-one (climbs-step count x xs q.1 s (omega arith));
      bound = λ s h. climbs-bound count x xs q.1 s (omega arith);
      high = rw n at (climbs-last count x xs q.1);
    }

-- ── the lists cut out ────────────────────────────────────────────────────────────────────────

module _ {A : Type 0} where
  pub length_cut : (slots count : ℕ) (offsets : List ℕ) (col : List A) → length offsets ≡ slots + 1 → length (cut offsets col) ≡ slots
  length_cut slots count offsets col h = rw (cut-length offsets col) (omega arith)

  pub get_or-cut : (slots : ℕ) (offsets : List ℕ) (col : List A) → length offsets ≡ slots + 1 → (s : ℕ) → s < slots
      → get_or (cut offsets col) s [] ≡ slice (get_or offsets s 0) (get_or offsets (s + 1) 0) col
  get_or-cut slots offsets col h s k = cut_at offsets col s (omega arith)
