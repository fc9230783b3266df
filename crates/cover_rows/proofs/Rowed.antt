-- Link columns row by row: the comparison of two links, and the loop that tests their order.
use mathlib.Core.Path.{◌≡◌, refl, ap, ◌∙◌}
use mathlib.Core.Bool.{Bool, true, false, not, ◌&&◌, ◌||◌}
use mathlib.Core.List.{List, [], ◌∷◌}
use Prim.Native.Nat.{ℕ, zero, suc, ◌+◌, ◌-◌, ◌≤◌, ◌<◌}
use native.Mathlib.Numerals.{add-one}
use native.Mathlib.Omega.{arith}
use lib.Dec.{ltb, eqb}
use lib.ListN.{length, get_or, drop_of_length-le}
use lib.Seq.{drop-cons}
use borrow.Author.Tests.{lt-ltb, le-ltb, eq-eqb, ne_eqb, not-true, not-false}
use Rattle.cover.specs.Chains.{link_less, links_above, links_rise}
use Rattle.cover.specs.Cover.{links_of}
use Rattle.cover.specs.Answers.{link}
use Rattle.cover.specs.Places.{row_at, rows_from}

-- ── two links ────────────────────────────────────────────────────────────────────────────────

module _ (a b c d x y z w : ℕ) where
  pub from-under : a < x → true ≡ link_less (link a b c d) (link x y z w)
  unfolding link_less
  from-under h = rw (lt-ltb a x h)

  pub from-over : x < a → false ≡ link_less (link a b c d) (link x y z w)
  unfolding link_less
  from-over h = rw (le-ltb a x (omega arith), ne_eqb a x (omega arith))

  module _ (h : x ≤ a) (k : a ≤ x) where
    level : link_less (link a b c d) (link x y z w) ≡ (ltb b y || (eqb b y && (ltb c z || (eqb c z && ltb d w))))
    unfolding link_less
    level = rw (le-ltb a x h, eq-eqb a x (omega arith))

    pub seq-under : b < y → true ≡ link_less (link a b c d) (link x y z w)
    seq-under m = rw (level, lt-ltb b y m)

    pub seq-over : y < b → false ≡ link_less (link a b c d) (link x y z w)
    seq-over m = rw (level, le-ltb b y (omega arith), ne_eqb b y (omega arith))

    module _ (h' : y ≤ b) (k' : b ≤ y) where
      level-more : link_less (link a b c d) (link x y z w) ≡ (ltb c z || (eqb c z && ltb d w))
      level-more = rw (level, le-ltb b y h', eq-eqb b y (omega arith))

      pub to-under : c < z → true ≡ link_less (link a b c d) (link x y z w)
      to-under m = rw (level-more, lt-ltb c z m)

      pub to-over : z < c → false ≡ link_less (link a b c d) (link x y z w)
      to-over m = rw (level-more, le-ltb c z (omega arith), ne_eqb c z (omega arith))

      pub to_level : z ≤ c → c ≤ z → ltb d w ≡ link_less (link a b c d) (link x y z w)
      to_level m o = rw (level-more, le-ltb c z m, eq-eqb c z (omega arith))

-- ── rows ─────────────────────────────────────────────────────────────────────────────────────

pub row_told : {r : Bool} (a b c d : List ℕ) (i j : ℕ)
    → r ≡ link_less (link (get_or a i 0) (get_or b i 0) (get_or c i 0) (get_or d i 0)) (link (get_or a j 0) (get_or b j 0) (get_or c j 0) (get_or d j 0))
    → r ≡ link_less (row_at a b c d i) (row_at a b c d j)
unfolding row_at
row_told a b c d i j e = e

module _ (a b c d : List ℕ) (p : length b ≡ length a) (q : length c ≡ length a) (r : length d ≡ length a) where
  pub rows-cons : (i : ℕ) → i < length a → rows_from a b c d i ≡ row_at a b c d i ∷ rows_from a b c d (suc i)
  unfolding links_of row_at rows_from
  rows-cons i h = rw (drop-cons a i 0 h, drop-cons b i 0 (omega arith), drop-cons c i 0 (omega arith), drop-cons d i 0 (omega arith))

pub rows_all : (a b c d : List ℕ) → links_of a b c d ≡ rows_from a b c d 0
unfolding rows_from
rows_all a b c d = refl

pub rows_none : (a b c d : List ℕ) (i : ℕ) → length a ≤ i → rows_from a b c d i ≡ []
unfolding links_of rows_from
rows_none a b c d i h = rw (drop_of_length-le a {i = i} h)

module _ (a b c d : List ℕ) (p : length b ≡ length a) (q : length c ≡ length a) (r : length d ≡ length a) where
  from_first : (n : ℕ) → length a ≡ n → links_rise (rows_from a b c d 0) ≡ links_above (row_at a b c d 0) (rows_from a b c d 1)
  unfolding links_rise links_above
  from_first zero z = rw (rows_none a b c d 0 (omega arith), rows_none a b c d 1 (omega arith))
  from_first (suc n) z = rw (rows-cons a b c d p q r 0 (omega arith))

  pub rise-first : links_rise (links_of a b c d) ≡ links_above (row_at a b c d (1 - 1)) (rows_from a b c d 1)
  rise-first = ap links_rise (rows_all a b c d) ∙ from_first (length a) refl

  module _ {t : Bool} (i : ℕ) (e : t ≡ links_above (row_at a b c d (i - 1)) (rows_from a b c d i)) where
    module _ (f : Bool) (g : f ≡ link_less (row_at a b c d (i - 1)) (row_at a b c d i)) (h : i < length a) where
      pub rise-not : not f ≡ true → false ≡ t
      unfolding links_above
      rise-not k = rw (e, rows-cons a b c d p q r i h, ← g, not-true f k)

      pub rise-on : not f ≡ false → t ≡ links_above (row_at a b c d (i + 1 - 1)) (rows_from a b c d (i + 1))
      unfolding links_above
      rise-on k =
          let z : i + 1 - 1 ≡ i = omega arith in
          rw (e, rows-cons a b c d p q r i h, ← g, not-false f k, z, add-one i)

pub rise-done : (a b c d : List ℕ) {t : Bool} (i : ℕ) → t ≡ links_above (row_at a b c d (i - 1)) (rows_from a b c d i) → length a ≤ i → true ≡ t
unfolding links_above
rise-done a b c d i e h = rw (e, rows_none a b c d i h)
