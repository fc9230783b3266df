-- Columns filled from a place on, and the end of a group: one turn of each loop, and each of its answers.
use mathlib.Core.Path.{◌≡◌, sym, ap, ◌∙◌}
use mathlib.Core.Bool.{true}
use mathlib.Core.List.{List, [], ◌∷◌, ◌++◌}
use Prim.Native.Nat.{ℕ, suc, ◌+◌, ◌-◌, ◌≤◌, ◌<◌}
use native.Mathlib.Numerals.{add-one}
use native.Mathlib.Omega.{arith}
use lib.Dec.{eqb, leb}
use lib.ListN.{length, length-drop, get_or, take, drop, replicate, length-replicate}
use lib.Seq.{slice, slice-cons, slice_empty, take-take, take_at, drop_at, length-take-le}
use borrow.Author.Tests.{leb-true, le-leb, eq-eqb}
use borrow.Rule.Slice.PartMut.{put_mid}
use Rattle.std.proofs.lemmas.Slice.{take-put_mid}
use Rattle.lists.specs.Lists.{all}
use Rattle.lists.specs.Order.{level_above}
use Rattle.lists.proofs.Tests.{both, all-each, all-of}
use Rattle.lists.proofs.Each.{each_append}
use Rattle.lists.proofs.Slices.{slice_snoc}
use Rattle.run_resolve.specs.links.Sorted.{Appended}

-- ── copies ───────────────────────────────────────────────────────────────────────────────────

-- what stands behind the first entries, once they are all there
pub behind : (was all vs : List ℕ) (end m : ℕ) → take (end + m) all ≡ take end was ++ vs → end + m ≤ 1024 → length was ≡ 1024 → Appended end m was all vs
behind was all vs end m e h l =
    let q = length-take-le end was (omega arith) in
    record {
      kept = sym (take-take end (end + m) all (omega arith)) ∙ ap (take end) e ∙ take_at (take end was) vs end q;
      added = ap (drop end) e ∙ drop_at (take end was) vs end q;
    }

-- a part that is filled
pub filled : (was now : List ℕ) (g end m : ℕ) → now ≡ replicate (length (take ((end + m) - end) (drop end was))) g → end + m ≤ 1024 → length was ≡ 1024
    → Appended end m was (put_mid end ((end + m) - end) was now) (replicate m g)
filled was now g end m e h l =
    let k : length (take ((end + m) - end) (drop end was)) ≡ m =
    length-take-le ((end + m) - end) (drop end was) (omega (arith, length-drop end was)) ∙ omega arith in
    let f : now ≡ replicate m g = e ∙ ap (λ n. replicate n g) k in
    let n : length now ≡ m = ap length f ∙ length-replicate m g in
    behind was _ (replicate m g) end m (take-put_mid end ((end + m) - end) was now (end + m) (omega (arith, n)) (omega arith) ∙ ap (λ x. take end was ++ x) f) h l

-- ── the end of a group ───────────────────────────────────────────────────────────────────────

module _ (g i n p : ℕ) (groups : List ℕ) (l : n ≤ length groups) where
  pub end-start : all (eqb g) (slice i i groups) ≡ true
  unfolding all
  end-start = rw (slice_empty i groups)

  pub end-last : level_above (g + 1) (slice n n groups) ≡ true
  unfolding level_above
  end-last = rw (slice_empty n groups)

  pub end-all : n ≤ p → p ≤ n → all (eqb g) (slice i p groups) ≡ true → all (eqb g) (slice i n groups) ≡ true
  end-all h k a = let e : p ≡ n = omega arith in rw e at a

  module _ (o : level_above g (slice p n groups) ≡ true) where
    module _ (h : p < n) where
      parts : (leb g (get_or groups p 0) ≡ true) × (level_above (get_or groups p 0) (slice (suc p) n groups) ≡ true)
      unfolding level_above
      parts = both (leb g (get_or groups p 0)) (level_above (get_or groups p 0) (slice (suc p) n groups)) (rw (slice-cons p n groups 0 h l) at o)

      pub end-here : (get_or groups p 0 ≡ g → ⊥) → level_above (g + 1) (slice p n groups) ≡ true
      unfolding level_above
      end-here d =
          let q : g < get_or groups p 0 = omega (arith, leb-true g (get_or groups p 0) parts.0, d) in
          rw (slice-cons p n groups 0 h l, le-leb (g + 1) (get_or groups p 0) (omega arith)) parts.1

      module _ (e : get_or groups p 0 ≡ g) where
        pub end-level : level_above g (slice (p + 1) n groups) ≡ true
        end-level = rw add-one (rw e at parts.1)

        pub end-own : i ≤ p → all (eqb g) (slice i p groups) ≡ true → all (eqb g) (slice i (p + 1) groups) ≡ true
        unfolding all
        end-own k a =
            rw (add-one, slice_snoc i p groups 0 k (omega arith))
            (all-of (eqb g) (slice i p groups ++ (get_or groups p 0 ∷ []))
            (each_append (λ x. eqb g x ≡ true) (slice i p groups) (get_or groups p 0 ∷ []) (all-each (eqb g) (slice i p groups) a) (eq-eqb g (get_or groups p 0) (sym e), tt)))
