-- Offsets that climb from 0 to the end of a column, and the lists that they cut out of it.
use mathlib.Core.Path.{◌≡◌, refl, sym, ap}
use mathlib.Core.Bool.{true, false, false≢true}
use mathlib.Core.List.{List, [], ◌∷◌}
use Prim.Native.Nat.{ℕ, zero, suc, ◌≤◌, ◌<◌, ◌+◌, ◌-◌, ◌*◌}
use native.Mathlib.Nat.{le_trans}
use native.Mathlib.Numerals.{add-one}
use native.Mathlib.Omega.{arith}
use lib.Dec.{leb, eqb}
use lib.ListN.{length, get_or, drop, drop_of_length-le}
use lib.Seq.{slice, length-slice}
use borrow.Author.Tests.{leb-true, eqb-true}
use Rattle.lists.specs.Lists.{joined, starts}
use Rattle.lists.specs.Order.{climbs_to}
use Rattle.lists.proofs.Tests.{both}
use Rattle.lists.proofs.Slices.{slice-rest}
use Rattle.columns.specs.EdgeSet.{cut_from, cut, from_to, offsets_form}

-- ── climbing ─────────────────────────────────────────────────────────────────────────────────

pub low-high : (high low : ℕ) (xs : List ℕ) → climbs_to high low xs ≡ true → low ≤ high
unfolding climbs_to
low-high high low [] e = let k : low ≡ high = eqb-true low high e in omega arith
low-high high low (x ∷ xs) e =
    let p = both (leb low x) (climbs_to high x xs) e in
    le_trans (leb-true low x p.0) (low-high high x xs p.1)

steps : (high x : ℕ) (xs : List ℕ) → climbs_to high x xs ≡ true → (q : ℕ) → q < length xs → (get_or (x ∷ xs) q 0 ≤ get_or xs q 0) × (get_or xs q 0 ≤ high)
unfolding climbs_to
steps high x [] e q h = absurd (omega arith)
steps high x (y ∷ ys) e zero h =
    let p = both (leb x y) (climbs_to high y ys) e in
    (leb-true x y p.0, low-high high y ys p.1)
steps high x (y ∷ ys) e (suc q) h = steps high y ys (both (leb x y) (climbs_to high y ys) e).1 q (omega arith)

-- ── cutting ──────────────────────────────────────────────────────────────────────────────────

module _ {A : Type 0} where
  cut_from-at : (a : ℕ) (bs : List ℕ) (column : List A) (q : ℕ) → q < length bs → get_or (cut_from a bs column) q [] ≡ slice (get_or (a ∷ bs) q 0) (get_or bs q 0) column
  unfolding cut_from
  cut_from-at a [] column q h = absurd (omega arith)
  cut_from-at a (b ∷ bs) column zero h = refl
  cut_from-at a (b ∷ bs) column (suc q) h = cut_from-at b bs column q (omega arith)

  pub cut_at : (offsets : List ℕ) (column : List A) (q : ℕ) → q + 1 < length offsets → get_or (cut offsets column) q [] ≡ slice (get_or offsets q 0) (get_or offsets (q + 1) 0) column
  unfolding cut
  cut_at [] column q h = absurd (omega arith)
  cut_at (a ∷ bs) column q h = rw add-one (cut_from-at a bs column q (omega arith))

  pub slot-cut : (offsets : List ℕ) (column : List A) (slot from to : ℕ) → slot + 1 < length offsets → from ≡ get_or offsets slot 0 → to ≡ get_or offsets (slot + 1) 0
      → get_or (cut offsets column) slot [] ≡ slice from to column
  slot-cut offsets column slot from to h f g = rw (f, g) (cut_at offsets column slot h)

  pub cut_from-length : (a : ℕ) (bs : List ℕ) (column : List A) → length (cut_from a bs column) ≡ length bs
  unfolding cut_from
  cut_from-length a [] column = refl
  cut_from-length a (b ∷ bs) column = ap suc (cut_from-length b bs column)

  pub cut-length : (offsets : List ℕ) (column : List A) → length (cut offsets column) ≡ length offsets - 1
  unfolding cut
  cut-length [] column = refl
  cut-length (a ∷ bs) column = rw (cut_from-length a bs column) (omega arith)

-- ── a whole column ───────────────────────────────────────────────────────────────────────────

module _ {A : Type 0} (column : List A) where
  joined-from : (a : ℕ) (bs : List ℕ) → climbs_to (length column) a bs ≡ true → joined (cut_from a bs column) ≡ drop a column
  unfolding climbs_to cut_from joined
  joined-from a [] e = let z : a ≡ length column = eqb-true a (length column) e in sym (drop_of_length-le column {i = a} (omega arith))
  joined-from a (b ∷ bs) e =
      let p = both (leb a b) (climbs_to (length column) b bs) e in
      rw (joined-from b bs p.1) (slice-rest a b column (leb-true a b p.0) (low-high (length column) b bs p.1))

  starts_from : (a : ℕ) (bs : List ℕ) → climbs_to (length column) a bs ≡ true → starts a (cut_from a bs column) ≡ a ∷ bs
  unfolding climbs_to cut_from starts
  starts_from a [] e = refl
  starts_from a (b ∷ bs) e =
      let p = both (leb a b) (climbs_to (length column) b bs) e in
      let l : a + length (slice a b column) ≡ b = rw (length-slice a b column (low-high (length column) b bs p.1)) (omega (arith, leb-true a b p.0)) in
      rw (l, starts_from b bs p.1)

  -- the lists that a table in form cuts out hold the whole column, and start where its offsets say
  pub joined-cut : (offsets : List ℕ) → from_to 0 (length column) offsets ≡ true → joined (cut offsets column) ≡ column
  unfolding from_to cut
  joined-cut [] e = absurd (false≢true e)
  joined-cut (a ∷ bs) e = let p = both (eqb a 0) _ e in rw (joined-from a bs p.1, eqb-true a 0 p.0)

  pub starts-cut : (offsets : List ℕ) → from_to 0 (length column) offsets ≡ true → starts 0 (cut offsets column) ≡ offsets
  unfolding from_to cut
  starts-cut [] e = absurd (false≢true e)
  starts-cut (a ∷ bs) e = let p = both (eqb a 0) _ e in rw (← eqb-true a 0 p.0) (starts_from a bs p.1)

-- ── from 0 to the end ────────────────────────────────────────────────────────────────────────

module _ (high : ℕ) (offsets : List ℕ) (e : from_to 0 high offsets ≡ true) where
  pub some-offset : 0 < length offsets
  unfolding from_to
  some-offset = go offsets e
    where
      go : (os : List ℕ) → from_to 0 high os ≡ true → 0 < length os
      go [] f = absurd (false≢true f)
      go (x ∷ xs) f = omega arith

  pub starts-at : get_or offsets 0 0 ≡ 0
  unfolding from_to
  starts-at = go offsets e
    where
      go : (os : List ℕ) → from_to 0 high os ≡ true → get_or os 0 0 ≡ 0
      go [] f = refl
      go (x ∷ xs) f = eqb-true x 0 (both (eqb x 0) (climbs_to high x xs) f).0

  at_slot : (slot : ℕ) → slot + 1 < length offsets → (get_or offsets slot 0 ≤ get_or offsets (slot + 1) 0) × (get_or offsets (slot + 1) 0 ≤ high)
  unfolding from_to
  at_slot slot h = go offsets e h
    where
      go : (os : List ℕ) → from_to 0 high os ≡ true → slot + 1 < length os → (get_or os slot 0 ≤ get_or os (slot + 1) 0) × (get_or os (slot + 1) 0 ≤ high)
      go [] f k = absurd (omega arith)
      go (x ∷ xs) f k = rw add-one (steps high x xs (both (eqb x 0) (climbs_to high x xs) f).1 slot (omega arith))

  module _ (slot : ℕ) (h : slot + 1 < length offsets) (from to : ℕ) (f : from ≡ get_or offsets slot 0) (g : to ≡ get_or offsets (slot + 1) 0) where
    pub ordered : from ≤ to
    ordered = omega (arith, (at_slot slot h).0)

    pub inside : to ≤ high
    inside = omega (arith, (at_slot slot h).1)

-- a column with as many entries as offsets of the form say
pub form-climbs : (K rows count : ℕ) (offsets : List ℕ) → offsets_form K rows count offsets ≡ true → from_to 0 count offsets ≡ true
unfolding offsets_form
form-climbs K rows count offsets e = (both (eqb (length offsets) (K * rows + 1)) _ e).1

pub form-length : (K rows count : ℕ) (offsets : List ℕ) → offsets_form K rows count offsets ≡ true → length offsets ≡ K * rows + 1
unfolding offsets_form
form-length K rows count offsets e = eqb-true _ _ (both (eqb (length offsets) (K * rows + 1)) _ e).0
