-- Range columns place by place: the tests of their form, and the range that a window meets.
use mathlib.Core.Path.{◌≡◌, refl, ap}
use mathlib.Core.Bool.{Bool, true, false, not, ◌&&◌, or-false}
use mathlib.Core.Logic.{inl, inr}
use mathlib.Core.List.{List, [], ◌∷◌, map}
use Prim.Native.Nat.{ℕ, suc, ◌+◌, ◌≤◌, ◌<◌}
use native.Mathlib.Numerals.{add-one}
use native.Mathlib.Omega.{arith}
use lib.Dec.{ltb, leb, eqb}
use lib.ListN.{length, drop, get_or, drop_of_length-le}
use lib.Seq.{drop-cons}
use borrow.Author.Tests.{le-leb, lt-leb, eq-eqb, ne_eqb, ltb-true, eqb-true, not-true, not-false}
use Rattle.lists.specs.Lists.{all, any}
use Rattle.lists.specs.Order.{rises_above, rising, not_falling}
use Rattle.lists.proofs.Tests.{tested, both}
use Rattle.lists.proofs.Rising.{rising-level, rises-lower}
use Rattle.cover.specs.Chains.{Range}
use Rattle.cover.specs.Cover.{ranges_ok}
use Rattle.cover.specs.Questions.{meets}
use Rattle.arrays.specs.searching.Place.{place_of}
use Rattle.arrays.proofs.searching.Halving.{place-stands}
use Rattle.cover.specs.Answers.{range, ranges_in, range_columns, even_ranges, ranges_fit}
use Rattle.cover_read.proofs.Climbing.{rises-past}

pub ranges-cons : (i : ℕ) (a b c : List ℕ) → i < length a → length b ≡ length a → length c ≡ length a
    → ranges_in (drop i a) (drop i b) (drop i c) ≡ range (get_or a i 0) (get_or b i 0) (get_or c i 0) ∷ ranges_in (drop (suc i) a) (drop (suc i) b) (drop (suc i) c)
unfolding ranges_in
ranges-cons i a b c h k m = rw (drop-cons a i 0 h, drop-cons b i 0 (omega arith), drop-cons c i 0 (omega arith))

-- the ids of ranges are the first column
pub ids-of : (a b c : List ℕ) → length b ≡ length a → length c ≡ length a → map (λ r. r.chain) (ranges_in a b c) ≡ a
unfolding ranges_in
ids-of [] b c h k = refl
ids-of (x ∷ xs) [] c h k = absurd (omega arith)
ids-of (x ∷ xs) (y ∷ ys) [] h k = absurd (omega arith)
ids-of (x ∷ xs) (y ∷ ys) (z ∷ zs) h k = ap (λ l. x ∷ l) (ids-of xs ys zs (omega arith) (omega arith))

-- ── minima and maxima ────────────────────────────────────────────────────────────────────────

abbrev ordered : Range → Bool
ordered x = leb x.least x.greatest

module _ {t : Bool} (i : ℕ) (a b c : List ℕ) (e : t ≡ all (λ x. leb x.least x.greatest) (ranges_in (drop i a) (drop i b) (drop i c))) where
  pub ordered-done : length a ≤ i → true ≡ t
  unfolding all ranges_in
  ordered-done h = rw (e, drop_of_length-le a {i = i} h)

  module _ (h : i < length a) (k : length b ≡ length a) (m : length c ≡ length a) where
    pub ordered-not : get_or c i 0 < get_or b i 0 → false ≡ t
    unfolding all
    ordered-not f = rw (e, ranges-cons i a b c h k m, lt-leb (get_or b i 0) (get_or c i 0) f)

    pub ordered-on : get_or b i 0 ≤ get_or c i 0 → t ≡ all (λ x. leb x.least x.greatest) (ranges_in (drop (i + 1) a) (drop (i + 1) b) (drop (i + 1) c))
    unfolding all
    ordered-on f = rw (e, ranges-cons i a b c h k m, le-leb (get_or b i 0) (get_or c i 0) f, add-one)

-- ── the form ─────────────────────────────────────────────────────────────────────────────────

module _ (a b c : List ℕ) where
  pub few-minima : (length b ≡ length a → ⊥) → false ≡ ranges_fit (range_columns a b c)
  unfolding ranges_fit even_ranges
  few-minima h = rw (ne_eqb (length b) (length a) h)

  module _ (h : length b ≡ length a) where
    pub few-maxima : (length c ≡ length a → ⊥) → false ≡ ranges_fit (range_columns a b c)
    unfolding ranges_fit even_ranges
    few-maxima k = rw (eq-eqb (length b) (length a) h, ne_eqb (length c) (length a) k)

    module _ (k : length c ≡ length a) (r : Bool) (e : r ≡ rising a) where
      form : ranges_fit (range_columns a b c) ≡ r && all (λ x. leb x.least x.greatest) (ranges_in a b c)
      unfolding ranges_fit even_ranges ranges_ok
      form = rw (eq-eqb (length b) (length a) h, eq-eqb (length c) (length a) k, ids-of a b c h k, ← e)

      pub ids-fall : not r ≡ true → false ≡ ranges_fit (range_columns a b c)
      ids-fall q = rw (form, not-true r q)

      pub then-ordered : not r ≡ false → (s : Bool) → s ≡ all (λ x. leb x.least x.greatest) (ranges_in a b c) → s ≡ ranges_fit (range_columns a b c)
      then-ordered q s f = rw (form, not-false r q) f

-- what columns in form are
module _ (a b c : List ℕ) (fit : ranges_fit (range_columns a b c) ≡ true) where
  even : even_ranges (range_columns a b c) ≡ true
  unfolding ranges_fit
  even = (both (even_ranges (range_columns a b c)) (ranges_ok (ranges_in a b c)) fit).0

  pub fit-minima : length b ≡ length a
  unfolding even_ranges
  fit-minima = eqb-true (length b) (length a) (both (eqb (length b) (length a)) (eqb (length c) (length a)) even).0

  pub fit-maxima : length c ≡ length a
  unfolding even_ranges
  fit-maxima = eqb-true (length c) (length a) (both (eqb (length b) (length a)) (eqb (length c) (length a)) even).1

  pub fit-rising : rising a ≡ true
  unfolding ranges_fit ranges_ok
  fit-rising =
      let p = (both (even_ranges (range_columns a b c)) (ranges_ok (ranges_in a b c)) fit).1 in
      let q = (both (rising (map (λ r. r.chain) (ranges_in a b c))) (all (λ x. leb x.least x.greatest) (ranges_in a b c)) p).0 in
      rw (ids-of a b c fit-minima fit-maxima) at q

  pub fit-level : not_falling a ≡ true
  fit-level = rising-level a fit-rising

  pub in-minima : (p : ℕ) → p < length a → p < length b
  in-minima p h = omega (arith, fit-minima)

  pub in-maxima : (p : ℕ) → p < length a → p < length c
  in-maxima p h = omega (arith, fit-maxima)

-- ── the range that a window meets ────────────────────────────────────────────────────────────

module _ (chain low high : ℕ) where
  -- no id above the chain is the chain
  meets-none : (a b c : List ℕ) → rises_above chain a ≡ true → any (meets chain low high) (ranges_in a b c) ≡ false
  unfolding rises_above any meets ranges_in
  meets-none [] b c r = refl
  meets-none (x ∷ xs) [] c r = refl
  meets-none (x ∷ xs) (y ∷ ys) [] r = refl
  meets-none (x ∷ xs) (y ∷ ys) (z ∷ zs) r =
      let p = both (ltb chain x) (rises_above x xs) r in
      let h = ltb-true chain x p.0 in
      rw (ne_eqb x chain (λ q. omega arith)) (meets-none xs ys zs (rises-lower chain x xs (omega arith) p.1))

  -- no id before its place is the chain
  skip : (a b c : List ℕ) → length b ≡ length a → length c ≡ length a
      → any (meets chain low high) (ranges_in a b c) ≡ any (meets chain low high) (ranges_in (drop (place_of chain a) a) (drop (place_of chain a) b) (drop (place_of chain a) c))
  unfolding any meets ranges_in place_of
  skip [] b c h k = refl
  skip (x ∷ xs) [] c h k = absurd (omega arith)
  skip (x ∷ xs) (y ∷ ys) [] h k = absurd (omega arith)
  skip (x ∷ xs) (y ∷ ys) (z ∷ zs) h k =
      elim (tested (ltb x chain)) [
        | inl e ↦ let l = ltb-true x chain e in rw (e, ne_eqb x chain (λ q. omega arith)) (skip xs ys zs (omega arith) (omega arith))
        | inr e ↦ rw e
      ]

  module _ (a b c : List ℕ) (fit : ranges_fit (range_columns a b c) ≡ true) (p : ℕ) (at_place : p ≡ place_of chain a) where
    from_place : any (meets chain low high) (ranges_in a b c) ≡ any (meets chain low high) (ranges_in (drop p a) (drop p b) (drop p c))
    from_place = rw at_place (skip a b c (fit-minima a b c fit) (fit-maxima a b c fit))

    pub window-past : length a ≤ p → false ≡ any (meets chain low high) (ranges_in a b c)
    unfolding any ranges_in
    window-past h = rw (from_place, drop_of_length-le a {i = p} h)

    module _ (h : p < length a) where
      rest : any (meets chain low high) (ranges_in (drop (suc p) a) (drop (suc p) b) (drop (suc p) c)) ≡ false
      rest =
          let s : chain ≤ get_or a p 0 = rw at_place (place-stands chain a (rw at_place at h)) in
          meets-none (drop (suc p) a) (drop (suc p) b) (drop (suc p) c) (rises-lower chain (get_or a p 0) (drop (suc p) a) s (rises-past a p (fit-rising a b c fit) h))

      one : any (meets chain low high) (ranges_in a b c) ≡ meets chain low high (range (get_or a p 0) (get_or b p 0) (get_or c p 0))
      unfolding any
      one = rw (from_place, ranges-cons p a b c h (fit-minima a b c fit) (fit-maxima a b c fit), rest) (or-false _)

      pub window-other : (get_or a p 0 ≡ chain → ⊥) → false ≡ any (meets chain low high) (ranges_in a b c)
      unfolding meets
      window-other q = rw (one, ne_eqb (get_or a p 0) chain q)

      module _ (q : get_or a p 0 ≡ chain) where
        pub window-under : high < get_or b p 0 → false ≡ any (meets chain low high) (ranges_in a b c)
        unfolding meets
        window-under m = rw (one, eq-eqb (get_or a p 0) chain q, lt-leb (get_or b p 0) high m)

        pub window-meets : get_or b p 0 ≤ high → leb low (get_or c p 0) ≡ any (meets chain low high) (ranges_in a b c)
        unfolding meets
        window-meets m = rw (one, eq-eqb (get_or a p 0) chain q, le-leb (get_or b p 0) high m)
