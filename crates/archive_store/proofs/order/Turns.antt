-- Columns tested for their order: one turn of each loop, and each of its answers.
use Rattle.std.proofs.Common.{◌≡◌, ℕ, ◌+◌, ◌<◌, ◌≤◌, Bool, true, false, List, length, get_or, take, refl, add-one, arith, le-ltb, lt-ltb, le-leb}
use lib.Seq.{slice, slice-cons}
use borrow.Author.Tests.{lt-leb}
use Rattle.lists.specs.Order.{rising, rises_above, level_above, not_falling}
use Rattle.lists.proofs.Slices.{slice-none}

module _ {t : Bool} (low i n : ℕ) (l : List ℕ) (e : t ≡ level_above low (slice i n l)) where
  pub level-done : n ≤ i → true ≡ t
  unfolding level_above
  level-done h = rw (e, slice-none i n l h)

  module _ (h : i < n) (k : n ≤ length l) where
    pub level-falls : get_or l i 0 < low → false ≡ t
    unfolding level_above
    level-falls f = rw (e, slice-cons i n l 0, lt-leb low (get_or l i 0) f)

    pub level-on : low ≤ get_or l i 0 → t ≡ level_above (get_or l i 0) (slice (i + 1) n l)
    unfolding level_above
    level-on f = rw (e, slice-cons i n l 0, le-leb low (get_or l i 0) f, add-one)

pub level-start : (n : ℕ) (l : List ℕ) → not_falling (take n l) ≡ level_above 0 (slice 0 n l)
unfolding not_falling
level-start n l = refl

module _ {t : Bool} (low i n : ℕ) (l : List ℕ) (e : t ≡ rises_above low (slice i n l)) where
  pub rise-done : n ≤ i → true ≡ t
  unfolding rises_above
  rise-done h = rw (e, slice-none i n l h)

  module _ (h : i < n) (k : n ≤ length l) where
    pub rise-stops : get_or l i 0 ≤ low → false ≡ t
    unfolding rises_above
    rise-stops f = rw (e, slice-cons i n l 0, le-ltb low (get_or l i 0) f)

    pub rise-on : low < get_or l i 0 → t ≡ rises_above (get_or l i 0) (slice (i + 1) n l)
    unfolding rises_above
    rise-on f = rw (e, slice-cons i n l 0, lt-ltb low (get_or l i 0) f, add-one)

pub none-rises : (n : ℕ) (l : List ℕ) → n ≡ 0 → true ≡ rising (take n l)
unfolding rising
none-rises n l h = rw (h)

pub rise-all : (n : ℕ) (l : List ℕ) → (n ≡ 0 → ⊥) → n ≤ length l → {r : Bool} → r ≡ rises_above (get_or l 0 0) (slice 1 n l) → r ≡ rising (take n l)
unfolding rising
rise-all n l h k e = rw (slice-cons 0 n l 0 (omega arith) (omega arith)) e
