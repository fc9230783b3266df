-- Targets read out of a valid set are cut by its offsets into the set's own lists.
use mathlib.Core.Path.{◌≡◌, refl, sym, ◌∙◌, ap}
use mathlib.Core.Bool.{true, false≢true}
use mathlib.Core.Logic.{inl, inr}
use mathlib.Core.List.{List, [], ◌∷◌, ◌++◌, map, append_assoc}
use mathlib.Core.Option.{none}
use Prim.Native.Nat.{ℕ, suc, ◌≤◌, ◌+◌, ◌-◌}
use native.Mathlib.Omega.{arith}
use lib.Dec.{eqb, leb, ltb}
use lib.IntN.{ℤ}
use lib.ListN.{length, length-append, length-map}
use lib.Seq.{slice, length-slice, take_at}
use borrow.Author.Tests.{leb-true, eqb-true, ltb-true, ltb-false}
use Rattle.lists.specs.Lists.{joined}
use Rattle.lists.specs.Order.{climbs_to}
use Rattle.lists.proofs.Tests.{both, tested}
use Rattle.lists.proofs.Slices.{slice-behind}
use Rattle.columns.specs.EdgeSet.{EdgeSet, cut, cut_from, from_to, event_of, target_of}
use Rattle.columns.specs.Reading.{targets_from, slots_of, set_rules}
use Rattle.columns.proofs.Offsets.{low-high, form-climbs}
use Rattle.columns.proofs.Checks.{kept-form, kept-climbs}

pub joined-cons : (l : List ℕ) (ls : List (List ℕ)) → joined (l ∷ ls) ≡ l ++ joined ls
unfolding joined
joined-cons l ls = refl

-- the part of a list from the end of its first part to the end of its second
middle : (p q r l : List ℕ) (a b : ℕ) → l ≡ p ++ (q ++ r) → length p ≡ a → length q ≡ b - a → a ≤ b → slice a b l ≡ q
middle p q r l a b e h k o =
    let z : length p + length q ≡ b = omega arith in
    rw e (ap (λ (j : ℕ). slice a j (p ++ (q ++ r))) (sym z) ∙ ap (λ (j : ℕ). slice j (length p + length q) (p ++ (q ++ r))) (sym h) ∙ slice-behind p (q ++ r) (length q) ∙ take_at q r (length q) refl)

module _ (K first high : ℕ) (deltas : List ℤ) (fits : high ≤ length deltas) where
  slot-long : (s a b : ℕ) → b ≤ high → length (map (target_of (event_of K first s)) (slice a b deltas)) ≡ b - a
  slot-long s a b h = length-map (slice a b deltas) (target_of (event_of K first s)) ∙ length-slice a b deltas (omega arith)

  targets-cons : (s a b : ℕ) (bs : List ℕ) → targets_from K first s (cut_from a (b ∷ bs) deltas)
      ≡ map (target_of (event_of K first s)) (slice a b deltas) ∷ targets_from K first (suc s) (cut_from b bs deltas)
  unfolding targets_from cut_from
  targets-cons s a b bs = refl

  targets-none : (s a : ℕ) → targets_from K first s (cut_from a [] deltas) ≡ []
  unfolding targets_from cut_from
  targets-none s a = refl

  joined-none : joined {A = ℕ} [] ≡ []
  unfolding joined
  joined-none = refl

  cut-cons : (a b : ℕ) (bs l : List ℕ) → cut_from a (b ∷ bs) l ≡ slice a b l ∷ cut_from b bs l
  unfolding cut_from
  cut-cons a b bs l = refl

  cut-none : (a : ℕ) (l : List ℕ) → cut_from a [] l ≡ []
  unfolding cut_from
  cut-none a l = refl

  climb : (a b : ℕ) (bs : List ℕ) → climbs_to high a (b ∷ bs) ≡ true → (a ≤ b) × (climbs_to high b bs ≡ true)
  unfolding climbs_to
  climb a b bs e = let p = both (leb a b) (climbs_to high b bs) e in (leb-true a b p.0, p.1)

  same_lists : (s a : ℕ) (bs p r l : List ℕ) → climbs_to high a bs ≡ true → length p ≡ a → l ≡ p ++ (joined (targets_from K first s (cut_from a bs deltas)) ++ r)
      → cut_from a bs l ≡ targets_from K first s (cut_from a bs deltas)
  same_lists s a [] p r l e h f = cut-none a l ∙ sym (targets-none s a)
  same_lists s a (b ∷ bs) p r l e h f =
      let c = climb a b bs e in
      let k = low-high high b bs c.1 in
      let x = map (target_of (event_of K first s)) (slice a b deltas) in
      let rest = joined (targets_from K first (suc s) (cut_from b bs deltas)) in
      let q : length x ≡ b - a = slot-long s a b k in
      let g : l ≡ p ++ (x ++ (rest ++ r)) = f ∙ ap (λ (j : List (List ℕ)). p ++ (joined j ++ r)) (targets-cons s a b bs)
      ∙ ap (λ (j : List ℕ). p ++ (j ++ r)) (joined-cons x (targets_from K first (suc s) (cut_from b bs deltas)))
      ∙ ap (λ (j : List ℕ). p ++ j) (append_assoc x rest r) in
      let g' : l ≡ (p ++ x) ++ (rest ++ r) = g ∙ sym (append_assoc p x (rest ++ r)) in
      let n : length (p ++ x) ≡ b = length-append p x ∙ omega (arith, h, q, c.0) in
      cut-cons a b bs l ∙ ap (λ (j : List ℕ). j ∷ cut_from b bs l) (middle p x (rest ++ r) l a b g h q c.0)
      ∙ ap (λ (j : List (List ℕ)). x ∷ j) (same_lists (suc s) b bs (p ++ x) r l c.1 n g') ∙ sym (targets-cons s a b bs)

  module _ (offsets : List ℕ) (e : from_to 0 high offsets ≡ true) where
    all_same : (l r : List ℕ) → l ≡ joined (targets_from K first 0 (cut offsets deltas)) ++ r → cut offsets l ≡ targets_from K first 0 (cut offsets deltas)
    unfolding cut from_to
    all_same l r = go offsets e
      where
        go : (os : List ℕ) → from_to 0 high os ≡ true → l ≡ joined (targets_from K first 0 (cut os deltas)) ++ r → cut os l ≡ targets_from K first 0 (cut os deltas)
        go [] f g = absurd (false≢true f)
        go (o ∷ os) f g = let p = both (eqb o 0) (climbs_to high o os) f in let z : o ≡ 0 = eqb-true o 0 p.0 in same_lists 0 o os [] r l p.1 (sym z) g

-- the targets of a set whose rules are kept, at the start of a column
pub stored : (K set first rows end : ℕ) (s : EdgeSet) → set_rules K set first rows end s ≡ none → (r : List ℕ) → cut s.offsets (joined (slots_of K first s) ++ r) ≡ slots_of K first s
unfolding slots_of
stored K set first rows end s k r = elim (tested (ltb 0 s.count)) [
  | inl f ↦ all_same K first (length s.deltas) s.deltas (omega arith) s.offsets (kept-climbs K set first rows end s k (ltb-true 0 s.count f)) _ r refl
  | inr f ↦ all_same K first 0 s.deltas (omega arith) s.offsets
      (let z : s.count ≡ 0 = omega (arith, ltb-false 0 s.count f) in rw z at (form-climbs K rows s.count s.offsets (kept-form K set first rows end s k))) _ r refl
]
