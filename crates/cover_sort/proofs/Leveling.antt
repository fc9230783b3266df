-- The loop that tests whether links fall.
use Rattle.std.proofs.Common.{◌≡◌, ℕ, zero, suc, ◌+◌, ◌-◌, ◌<◌, ◌≤◌, Bool, true, false, List, length, sym, refl, ap, ◌∙◌, add-one, arith}
use Rattle.cover.specs.Chains.{link_less}
use Rattle.cover.specs.Cover.{links_of}
use Rattle.cover.specs.Places.{row_at, rows_from}
use Rattle.cover_rows.proofs.Rowed.{rows-cons, rows_all, rows_none}
use Rattle.cover_sort.specs.Kept.{level_from, links_level}

module _ (a b c d : List ℕ) (p : length b ≡ length a) (q : length c ≡ length a) (r : length d ≡ length a) where
  from_first : (n : ℕ) → length a ≡ n → links_level (rows_from a b c d 0) ≡ level_from (row_at a b c d 0) (rows_from a b c d 1)
  unfolding links_level level_from
  from_first zero z = rw (rows_none a b c d 0 (omega arith), rows_none a b c d 1 (omega arith))
  from_first (suc n) z = rw (rows-cons a b c d p q r 0 (omega arith))

  pub level-start : links_level (links_of a b c d) ≡ level_from (row_at a b c d (1 - 1)) (rows_from a b c d 1)
  level-start = ap links_level (rows_all a b c d) ∙ from_first (length a) refl

  module _ {t : Bool} (i : ℕ) (e : t ≡ level_from (row_at a b c d (i - 1)) (rows_from a b c d i)) where
    module _ (f : Bool) (g : f ≡ link_less (row_at a b c d i) (row_at a b c d (i - 1))) (h : i < length a) where
      pub level-not : f ≡ true → false ≡ t
      unfolding level_from
      level-not k = rw (e, rows-cons a b c d p q r i h, sym g ∙ k)

      pub level-on : f ≡ false → t ≡ level_from (row_at a b c d (i + 1 - 1)) (rows_from a b c d (i + 1))
      unfolding level_from
      level-on k =
          let z : i + 1 - 1 ≡ i = omega arith in
          rw (e, rows-cons a b c d p q r i h, sym g ∙ k, z, add-one i)

pub level-done : (a b c d : List ℕ) {t : Bool} (i : ℕ) → t ≡ level_from (row_at a b c d (i - 1)) (rows_from a b c d i) → length a ≤ i → true ≡ t
unfolding level_from
level-done a b c d i e h = rw (e, rows_none a b c d i h)
