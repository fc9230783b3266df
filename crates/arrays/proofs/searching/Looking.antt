-- A part of a column that is looked through for a number.
use Rattle.std.proofs.Common.{◌≡◌, ℕ, ◌+◌, ◌-◌, ◌<◌, ◌≤◌, Bool, true, false, ltb, eqb, List, [], ◌∷◌, length, get_or, take, drop, sym, refl, ◌∙◌, add-one, arith, eq-eqb, ne_eqb, le-ltb}
use lib.Seq.{slice, slice-cons}
use Rattle.std.specs.List.{list_any}
use Rattle.lists.specs.Lists.{mem}
use Rattle.lists.proofs.Once.{eqb-sym}
use Rattle.lists.proofs.Slices.{slice-none}
use Rattle.arrays.proofs.sorting.Halves.{slice-mid}

module _ {t : Bool} (x i to : ℕ) (l : List ℕ) (e : t ≡ mem x (slice i to l)) where
  pub not-among : to ≤ i → false ≡ t
  unfolding mem
  not-among h = rw (e, slice-none i to l h)

  module _ (h : i < to) (k : to ≤ length l) where
    pub found_among : get_or l i 0 ≡ x → true ≡ t
    unfolding mem
    found_among f = rw (e, slice-cons i to l 0, eq-eqb x (get_or l i 0) (sym f))

    pub among-on : (get_or l i 0 ≡ x → ⊥) → t ≡ mem x (slice (i + 1) to l)
    unfolding mem
    among-on f = rw (e, slice-cons i to l 0, ne_eqb x (get_or l i 0) (λ d. f (sym d)), add-one)

-- the library's test and ours
any-mem : (x : ℕ) (l : List ℕ) → list_any (λ y. eqb y x) l ≡ mem x l
unfolding mem
any-mem x [] = refl
any-mem x (y ∷ ys) = rw (eqb-sym y x, any-mem x ys)

pub in-part : {t : Bool} (x from to : ℕ) (l : List ℕ) → t ≡ list_any (λ y. eqb y x) (take (to - from) (drop from l)) → from < to → to ≤ length l → t ≡ mem x (slice from to l)
in-part x from to l e h k = e ∙ rw (slice-mid from to l (omega arith) k) (any-mem x (slice from to l))

pub in-none : (x from to : ℕ) (l : List ℕ) → to ≤ from → ltb from to ≡ mem x (slice from to l)
in-none x from to l h = le-ltb from to h ∙ not-among x from to l refl h
