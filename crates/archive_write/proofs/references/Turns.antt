-- The columns of a record of references, tested: one turn of each loop, and each of its answers.
use mathlib.Core.Path.{◌≡◌, refl, sym, ap, ◌∙◌}
use mathlib.Core.Bool.{Bool, true, false, ◌&&◌}
use mathlib.Core.List.{List, [], ◌∷◌}
use Prim.Native.Nat.{ℕ, ◌+◌, ◌-◌, ◌≤◌, ◌<◌}
use native.Mathlib.Numerals.{add-one}
use native.Mathlib.Omega.{arith}
use lib.Dec.{eqb}
use Rattle.std.proofs.lemmas.List.{drop-take}
use lib.ListN.{length, get_or, take, drop, drop_of_length-le}
use lib.Seq.{slice, drop-cons}
use borrow.Author.Tests.{le-leb, lt-leb, ne_eqb}
use Rattle.lists.specs.Lists.{all}
use Rattle.lists.specs.Order.{climbs_to}
use Rattle.columns.specs.EdgeSet.{from_to, cut}
use Rattle.columns.proofs.Offsets.{cut-length, slot-cut}
use Rattle.archive_write.specs.ByColumns.{times_in, once_at_most}

-- ── offsets ──────────────────────────────────────────────────────────────────────────────────

module _ (high : ℕ) (l : List ℕ) where
  pub no-offset : length l ≡ 0 → false ≡ from_to 0 high l
  unfolding from_to
  no-offset h = go l h
    where
      go : (l : List ℕ) → length l ≡ 0 → false ≡ from_to 0 high l
      go [] h = refl
      go (x ∷ xs) h = absurd (omega arith)

  module _ (h : length l ≡ 0 → ⊥) where
    formed : from_to 0 high l ≡ (eqb (get_or l 0 0) 0 && climbs_to high (get_or l 0 0) (drop 1 l))
    unfolding from_to
    formed = go l h
      where
        go : (l : List ℕ) → (length l ≡ 0 → ⊥) → from_to 0 high l ≡ (eqb (get_or l 0 0) 0 && climbs_to high (get_or l 0 0) (drop 1 l))
        go [] n = absurd (n refl)
        go (x ∷ xs) n = refl

    pub late-start : (get_or l 0 0 ≡ 0 → ⊥) → false ≡ from_to 0 high l
    late-start g = rw (formed, ne_eqb (get_or l 0 0) 0 g)

    pub climbs-from : get_or l 0 0 ≡ 0 → {r : Bool} → r ≡ climbs_to high 0 (drop 1 l) → r ≡ from_to 0 high l
    climbs-from g e = rw (formed, g) e

-- ── one kind of every row ────────────────────────────────────────────────────────────────────

module _ {t : Bool} (os ks : List ℕ) (kind i : ℕ) (e : t ≡ all (once_at_most kind) (drop i (cut os ks))) where
  pub rows-done : length os ≤ i + 1 → true ≡ t
  unfolding all
  rows-done h = rw (e, drop_of_length-le (cut os ks) {i = i} (omega (arith, cut-length os ks)))

  module _ (h : i + 1 < length os) (from to : ℕ) (a : from ≡ get_or os i 0) (b : to ≡ get_or os (i + 1) 0) (o : from ≤ to) (n : ℕ)
      (d : n ≡ times_in kind (take (to - from) (drop from ks))) where
    same-row : slice from to ks ≡ take (to - from) (drop from ks)
    same-row = let z : from + (to - from) ≡ to = omega arith in ap (λ n. drop from (take n ks)) (sym z) ∙ drop-take from (to - from) ks

    left : drop i (cut os ks) ≡ take (to - from) (drop from ks) ∷ drop (i + 1) (cut os ks)
    left =
        let m : i < length (cut os ks) = omega (arith, cut-length os ks) in
        rw (drop-cons (cut os ks) i [] m, slot-cut os ks i from to h a b, same-row, add-one i)

    pub row-twice : 1 < n → false ≡ t
    unfolding all once_at_most
    row-twice k = rw (e, left, ← d, lt-leb n 1 k)

    pub row-once : n ≤ 1 → t ≡ all (once_at_most kind) (drop (i + 1) (cut os ks))
    unfolding all once_at_most
    row-once k = rw (e, left, ← d, le-leb n 1 k)
