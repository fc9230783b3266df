-- A table of offsets that climbs from 0 to a count: its slots lie one after the other in the column, and what they cut out joins to a part of it.
use mathlib.Core.Path.{◌≡◌, sym}
use mathlib.Core.Bool.{true}
use mathlib.Core.List.{List, [], ◌∷◌}
use Prim.Native.Nat.{ℕ, zero, suc, ◌≤◌, ◌<◌, ◌+◌, ◌*◌}
use native.Mathlib.Nat.{le_refl, le_trans, add-zero}
use native.Mathlib.Numerals.{add-one}
use native.Mathlib.Omega.{arith}
use lib.Dec.{leb, eqb}
use lib.ListN.{length, get_or}
use lib.Seq.{slice, slice_empty, drop-cons}
use borrow.Author.Tests.{leb-true, eqb-true}
use Rattle.lists.specs.Lists.{joined, part}
use Rattle.lists.specs.Order.{climbs_to}
use Rattle.lists.proofs.Tests.{both}
use Rattle.lists.proofs.Slices.{slice-join}
use Rattle.columns.specs.EdgeSet.{from_to, offsets_form, cut}
use Rattle.columns.proofs.Offsets.{cut-length, cut_at, low-high}

-- ── climbing ─────────────────────────────────────────────────────────────────────────────────

-- any place of a climb is at or above each one before it and not above the top
climb : (high low : ℕ) (xs : List ℕ) → climbs_to high low xs ≡ true → (i j : ℕ) → i ≤ j → j < length (low ∷ xs) → get_or (low ∷ xs) i 0 ≤ get_or (low ∷ xs) j 0
unfolding climbs_to
climb high low xs e zero zero k h = le_refl low
climb high low [] e zero (suc j) k h = absurd (omega arith)
climb high low (x ∷ xs) e zero (suc j) k h =
    let p = both (leb low x) (climbs_to high x xs) e in
    le_trans (leb-true low x p.0) (climb high x xs p.1 zero j (omega arith) (omega arith))
climb high low xs e (suc i) zero k h = absurd (omega arith)
climb high low [] e (suc i) (suc j) k h = absurd (omega arith)
climb high low (x ∷ xs) e (suc i) (suc j) k h = climb high x xs (both (leb low x) (climbs_to high x xs) e).1 i j (omega arith) (omega arith)

climb-top : (high low : ℕ) (xs : List ℕ) → climbs_to high low xs ≡ true → (j : ℕ) → j < length (low ∷ xs) → get_or (low ∷ xs) j 0 ≤ high
unfolding climbs_to
climb-top high low xs e zero h = low-high high low xs e
climb-top high low [] e (suc j) h = absurd (omega arith)
climb-top high low (x ∷ xs) e (suc j) h = climb-top high x xs (both (leb low x) (climbs_to high x xs) e).1 j (omega arith)

pub table-rises : (count : ℕ) (os : List ℕ) → from_to 0 count os ≡ true → (i j : ℕ) → i ≤ j → j < length os → get_or os i 0 ≤ get_or os j 0
unfolding from_to
table-rises count [] e i j k h = absurd (omega arith)
table-rises count (o ∷ os) e i j k h = climb count o os (both (eqb o 0) (climbs_to count o os) e).1 i j k h

pub table-within : (count : ℕ) (os : List ℕ) → from_to 0 count os ≡ true → (j : ℕ) → j < length os → get_or os j 0 ≤ count
unfolding from_to
table-within count [] e j h = absurd (omega arith)
table-within count (o ∷ os) e j h = climb-top count o os (both (eqb o 0) (climbs_to count o os) e).1 j h

-- ── what a table cuts out ────────────────────────────────────────────────────────────────────

-- the lists of n slots, joined, are what lies between the first one's start and the last one's end
pub joined-slots : (count : ℕ) (os all : List ℕ) → from_to 0 count os ≡ true → count ≤ length all → (n s : ℕ) → s + n < length os
    → joined (part s n (cut os all)) ≡ slice (get_or os s 0) (get_or os (s + n) 0) all
unfolding joined part
joined-slots count os all e k zero s h = rw add-zero (sym (slice_empty (get_or os s 0) all))
joined-slots count os all e k (suc n) s h =
    let rest : joined (part (suc s) n (cut os all)) ≡ slice (get_or os (suc s) 0) (get_or os (suc s + n) 0) all = joined-slots count os all e k n (suc s) (omega arith) in
    let here : s < length (cut os all) = omega (arith, cut-length os all) in
    let same : suc s + n ≡ s + suc n = omega arith in
    rw (drop-cons (cut os all) s [] here, rest, cut_at os all s (omega arith), add-one, same)
    (slice-join (get_or os s 0) (get_or os (suc s) 0) (get_or os (s + suc n) 0) all
    (table-rises count os e s (suc s) (omega arith) (omega arith))
    (table-rises count os e (suc s) (s + suc n) (omega arith) (omega arith))
    (le_trans (table-within count os e (s + suc n) (omega arith)) k))

-- ── 17's form ────────────────────────────────────────────────────────────────────────────────

module _ (K rows count : ℕ) (os : List ℕ) (e : offsets_form K rows count os ≡ true) where
  pub form-length : length os ≡ K * rows + 1
  unfolding offsets_form
  form-length = eqb-true _ _ (both (eqb (length os) (K * rows + 1)) (from_to 0 count os) e).0

  pub form-table : from_to 0 count os ≡ true
  unfolding offsets_form
  form-table = (both (eqb (length os) (K * rows + 1)) (from_to 0 count os) e).1
