-- Rising lists: a loop that tests them, and where a number stands in one.
use mathlib.Core.Path.{◌≡◌, refl}
use mathlib.Core.Bool.{Bool, true, false}
use mathlib.Core.List.{List, [], ◌∷◌}
use Prim.Native.Nat.{ℕ, zero, suc, ◌+◌, ◌≤◌, ◌<◌}
use native.Mathlib.Numerals.{add-one}
use native.Mathlib.Nat.{not-suc-le-zero, le_of_suc-le-suc}
use native.Mathlib.Omega.{arith}
use lib.Dec.{ltb}
use lib.ListN.{length, drop, get_or, drop_of_length-le}
use lib.Seq.{drop-cons}
use borrow.Author.Tests.{lt-ltb, le-ltb, ltb-true}
use Rattle.lists.specs.Order.{rises_above, rising}
use Rattle.lists.proofs.Tests.{both}
use Rattle.lists.proofs.Rising.{rises-rising}

-- ── the test ─────────────────────────────────────────────────────────────────────────────────

module _ {t : Bool} (low i : ℕ) (l : List ℕ) (e : t ≡ rises_above low (drop i l)) where
  pub rose : length l ≤ i → true ≡ t
  unfolding rises_above
  rose h = rw (e, drop_of_length-le l {i = i} h)

  module _ (h : i < length l) where
    pub falls : get_or l i 0 ≤ low → false ≡ t
    unfolding rises_above
    falls k = rw (e, drop-cons l i 0 h, le-ltb low (get_or l i 0) k)

    pub rises-on : low < get_or l i 0 → t ≡ rises_above (get_or l i 0) (drop (i + 1) l)
    unfolding rises_above
    rises-on k = rw (e, drop-cons l i 0 h, lt-ltb low (get_or l i 0) k, add-one)

pub rising_none : (l : List ℕ) → length l ≡ 0 → true ≡ rising l
unfolding rising
rising_none [] h = refl
rising_none (x ∷ xs) h = absurd (omega arith)

pub rising-first : {t : Bool} (l : List ℕ) → (length l ≡ 0 → ⊥) → t ≡ rises_above (get_or l 0 0) (drop 1 l) → t ≡ rising l
unfolding rising
rising-first [] h e = absurd (h refl)
rising-first (x ∷ xs) h e = e

-- ── what a rising list says ──────────────────────────────────────────────────────────────────

rises-get : (low : ℕ) (l : List ℕ) (i : ℕ) → rises_above low l ≡ true → i < length l → low < get_or l i 0
unfolding rises_above
rises-get low [] i a h = absurd (not-suc-le-zero h)
rises-get low (x ∷ xs) zero a h = ltb-true low x (both (ltb low x) (rises_above x xs) a).0
rises-get low (x ∷ xs) (suc i) a h =
    let p = both (ltb low x) (rises_above x xs) a in
    let q = rises-get x xs i p.1 (le_of_suc-le-suc h) in
    omega (arith, ltb-true low x p.0)

-- what follows an element rises above it
pub rises-past : (l : List ℕ) (i : ℕ) → rising l ≡ true → i < length l → rises_above (get_or l i 0) (drop (suc i) l) ≡ true
unfolding rising
rises-past [] i a h = absurd (not-suc-le-zero h)
rises-past (x ∷ xs) zero a h = a
rises-past (x ∷ xs) (suc i) a h = rises-past xs i (rises-rising x xs a) (le_of_suc-le-suc h)
