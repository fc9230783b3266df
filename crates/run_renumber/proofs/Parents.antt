-- What one parent does to the list that grows, by its case, and one turn of the loop over the parents.
use Rattle.std.specs.Prelude.{None, Some, Option}
use mathlib.Core.Path.{◌≡◌, refl, sym, ◌∙◌}
use mathlib.Core.Bool.{Bool, true, false, cond}
use mathlib.Core.Logic.{inl, inr}
use mathlib.Core.List.{List, [], ◌∷◌, foldl}
use Prim.Native.Nat.{ℕ, suc, ◌≤◌, ◌<◌, ◌+◌, ◌-◌, ◌*◌, ◌^◌}
use native.Mathlib.Nat.{le_refl, le_trans, mul-le-mul_left}
use native.Mathlib.Numerals.{add-one}
use native.Mathlib.Omega.{arith}
use lib.Dec.{ltb, eqb}
use lib.ListN.{length, get_or, take, get_or-eq_default}
use lib.Seq.{slice, slice-cons, slice_empty, length-take-le, get_or-take, take-take}
use mir.Syntax.{w64}
use mir.Val.{Fits}
use borrow.Author.Tests.{lt-ltb, le-ltb, eq-eqb, ne_eqb, ltb-true, ltb-false}
use Rattle.lists.specs.Lists.{add}
use Rattle.lists.proofs.Tests.{tested}
use Rattle.lists.proofs.Slices.{slice-none}
use Rattle.lists.proofs.Slots.{slot-under}
use Rattle.lists.proofs.Once.{fold-grows, add-grows}
use Rattle.columns.specs.EdgeSet.{from_to, cut}
use Rattle.columns.proofs.Offsets.{cut-length, cut_at}
use Rattle.run_renumber.specs.NewLists.{add_parent, new_list}
use Rattle.run_renumber.specs.Answers.{Grew, Exact}
use Rattle.run_renumber.proofs.Growing.{grew, too_long}
use Rattle.run_renumber.proofs.Tables.{table-rises, table-within}

-- ── an erased parent's own list ──────────────────────────────────────────────────────────────

-- a flag that is not 0 stands in the column
pub flag-in : (flags : List ℕ) (q x : ℕ) → x ≡ get_or flags q 0 → (x ≡ 0 → ⊥) → q < length flags
flag-in flags q x e f = elim (tested (ltb q (length flags))) [
  | inl t ↦ ltb-true q (length flags) t
  | inr t ↦ absurd (f (e ∙ get_or-eq_default flags 0 {n = q} (ltb-false q (length flags) t)))
]

-- so the place of its slot is a number of 64 bits
module _ (K : ℕ) (flags : List ℕ) (q x : ℕ) (offs : List ℕ) (e : x ≡ get_or flags q 0) (f : x ≡ 0 → ⊥) (h : K * length flags < length offs) (k : length offs * 8 < 2 ^ 63) where
  pub slot-fits : Fits w64 (K * q)
  slot-fits = record { fits = omega (arith, mul-le-mul_left K (flag-in flags q x e f)) }

  pub place-fits : (kind : ℕ) → kind < K → Fits w64 (K * q + kind)
  place-fits kind l = record { fits = omega (arith, slot-under K (length flags) q kind (flag-in flags q x e f) l) }

module _ (offs : List ℕ) (s : ℕ) (h : s < length offs) where
  long : length (take (s + 1) offs) ≡ s + 1
  long = length-take-le (s + 1) offs (omega arith)

  -- the table's first offsets
  first : (t a : ℕ) → t ≤ s → a ≡ get_or offs t 0 → get_or (take (s + 1) offs) t 0 ≡ a
  first t a i k = get_or-take (s + 1) offs t 0 (omega arith) ∙ sym k

  no-list : (t : ℕ) (all : List ℕ) → s ≤ t → get_or (cut (take (s + 1) offs) all) t [] ≡ []
  no-list t all i = get_or-eq_default (cut (take (s + 1) offs) all) [] {n = t} (omega (arith, long, cut-length (take (s + 1) offs) all))

module _ (offs : List ℕ) (t b : ℕ) (l : b ≡ get_or offs (t + 1) 0) (s base : ℕ) (ok : from_to 0 base (take (s + 1) offs) ≡ true) (h : s < length offs) (i : t < s) where
  pub within : b ≤ base
  within = rw (first offs s h (t + 1) b (omega arith) l) at (table-within base (take (s + 1) offs) ok (t + 1) (omega (arith, long offs s h)))

  module _ (a : ℕ) (k : a ≡ get_or offs t 0) where
    pub ordered : a ≤ b
    ordered =
        rw (first offs s h t a (omega arith) k, first offs s h (t + 1) b (omega arith) l)
        at (table-rises base (take (s + 1) offs) ok t (t + 1) (omega arith) (omega (arith, long offs s h)))

    own-list : (all : List ℕ) → get_or (cut (take (s + 1) offs) (take base all)) t [] ≡ slice a b all
    own-list all =
        cut_at (take (s + 1) offs) (take base all) t (omega (arith, long offs s h))
        ∙ rw (first offs s h t a (omega arith) k, first offs s h (t + 1) b (omega arith) l, take-take b base all within)

-- ── by cases ─────────────────────────────────────────────────────────────────────────────────

module _ (K start kind : ℕ) (flags numbers offs : List ℕ) (s base end p : ℕ) (was is : List ℕ) (r : Option ℕ) where
  pub exact-before : Exact r base was is (add (slice base end was) p) → p < start
      → Exact r base was is (add_parent K start flags numbers kind (cut (take (s + 1) offs) (take base was)) (slice base end was) p)
  unfolding add_parent
  exact-before c h = rw (lt-ltb p start h) c

  module _ (q x : ℕ) (e : q ≡ p - start) (h : start ≤ p) (f : x ≡ get_or flags q 0) where
    pub exact-renamed : (y : ℕ) → Exact r base was is (add (slice base end was) y) → x ≡ 0 → y ≡ get_or numbers q 0
        → Exact r base was is (add_parent K start flags numbers kind (cut (take (s + 1) offs) (take base was)) (slice base end was) p)
    unfolding add_parent
    exact-renamed y c z g = rw (le-ltb p start h, ← e, eq-eqb (get_or flags q 0) 0 (sym f ∙ z), ← g) c

    module _ (z : x ≡ 0 → ⊥) (o : s < length offs) where
      erased : eqb (get_or flags q 0) 0 ≡ false
      erased = ne_eqb (get_or flags q 0) 0 (λ w. z (f ∙ w))

      pub exact-merged : (a b : ℕ) → Exact r base was is (foldl add (slice base end was) (slice a b was)) → K * q + kind < s
          → from_to 0 base (take (s + 1) offs) ≡ true → a ≡ get_or offs (K * q + kind) 0 → b ≡ get_or offs (K * q + kind + 1) 0
          → Exact r base was is (add_parent K start flags numbers kind (cut (take (s + 1) offs) (take base was)) (slice base end was) p)
      unfolding add_parent
      exact-merged a b c i ok k l = rw (le-ltb p start h, ← e, erased, own-list offs (K * q + kind) b l s base ok o i a k was) c

pub grew_none : (K start kind : ℕ) (flags numbers offs : List ℕ) (s base end p : ℕ) (was : List ℕ) (q x : ℕ) → q ≡ p - start → start ≤ p → x ≡ get_or flags q 0
    → (x ≡ 0 → ⊥) → s < length offs → base ≤ end → end ≤ length was → s ≤ K * q + kind
    → Grew base was was end (add_parent K start flags numbers kind (cut (take (s + 1) offs) (take base was)) (slice base end was) p)
unfolding add_parent
grew_none K start kind flags numbers offs s base end p was q x e h f z o a b i =
    record {
      room = b;
      above = a;
      kept = refl;
      holds = rw (le-ltb p start h, ← e, ne_eqb (get_or flags q 0) 0 (λ w. z (f ∙ w)), no-list offs s o (K * q + kind) (take base was) i);
    }

-- ── the loop over the parents ────────────────────────────────────────────────────────────────

module _ (K start : ℕ) (flags numbers : List ℕ) (kind : ℕ) (lists : List (List ℕ)) where
  parent-grows : (acc : List ℕ) (p : ℕ) → length acc ≤ length (add_parent K start flags numbers kind lists acc p)
  unfolding add_parent
  parent-grows acc p = go (ltb p start) (eqb (get_or flags (p - start) 0) 0)
    where
      go : (b c : Bool) → length acc ≤ length (cond b (add acc p)
          (cond c (add acc (get_or numbers (p - start) 0)) (foldl add acc (get_or lists (K * (p - start) + kind) []))))
      go true c = add-grows acc p
      go false true = add-grows acc (get_or numbers (p - start) 0)
      go false false = fold-grows acc (get_or lists (K * (p - start) + kind) [])

  parents-grow : (acc ps : List ℕ) → length acc ≤ length (foldl (add_parent K start flags numbers kind lists) acc ps)
  parents-grow acc [] = le_refl _
  parents-grow acc (p ∷ ps) = le_trans (parent-grows acc p) (parents-grow (add_parent K start flags numbers kind lists acc p) ps)

  pub list-begins : (base a b : ℕ) (all ps : List ℕ)
      → new_list K start flags numbers kind lists (slice a b ps) ≡ foldl (add_parent K start flags numbers kind lists) (slice base base all) (slice a b ps)
  unfolding new_list
  list-begins base a b all ps = rw (slice_empty base all)

-- the list all[base..n] after the parent p
abbrev after : (K : ℕ) → ℕ → List ℕ → List ℕ → ℕ → List ℕ → ℕ → ℕ → ℕ → List ℕ → ℕ → List ℕ
after K start flags numbers kind offs s base n all p = add_parent K start flags numbers kind (cut (take (s + 1) offs) (take base all)) (slice base n all) p

module _ (K start : ℕ) (flags numbers : List ℕ) (kind : ℕ) (offs : List ℕ) (s : ℕ) {t : List ℕ} (base n i b : ℕ) (was l ps : List ℕ)
    (k : take base l ≡ take base was) (e : t ≡ foldl (add_parent K start flags numbers kind (cut (take (s + 1) offs) (take base was))) (slice base n l) (slice i b ps)) where
  pub list_done : b ≤ i → base ≤ n → n ≤ length l → Grew base was l n t
  list_done h a o = record { room = o; above = a; kept = k; holds = rw (e, slice-none i b ps h) }

  module _ (h : i < b) (o : b ≤ length ps) (r : Option ℕ) (is : List ℕ)
      (x : Exact r base l is (add_parent K start flags numbers kind (cut (take (s + 1) offs) (take base l)) (slice base n l) (get_or ps i 0))) where
    turned : t ≡ foldl (add_parent K start flags numbers kind (cut (take (s + 1) offs) (take base was))) (after K start flags numbers kind offs s base n l (get_or ps i 0)) (slice (suc i) b ps)
    turned = rw (e, slice-cons i b ps 0, k)

    pub list-more : (m : ℕ) → r ≡ Some m
        → t ≡ foldl (add_parent K start flags numbers kind (cut (take (s + 1) offs) (take base was))) (slice base m is) (slice (i + 1) b ps)
    list-more m f = rw ((grew r m base l is (after K start flags numbers kind offs s base n l (get_or ps i 0)) x f).holds, add-one i) turned

    pub list_full : r ≡ None → length is < base + length t
    list_full f =
        rw turned
        (le_trans (too_long r base l is (after K start flags numbers kind offs s base n l (get_or ps i 0)) x f)
        (omega (arith, parents-grow K start flags numbers kind (cut (take (s + 1) offs) (take base was)) (after K start flags numbers kind offs s base n l (get_or ps i 0)) (slice (suc i) b ps))))
