-- Inbound edges that keep 11 and 12, as facts about their columns.
use Prim.Native.Nat.{ℕ, zero, suc, ◌+◌, ◌≤◌, ◌<◌}
use Rattle.columns.specs.Building.{has, greater, record_count, in_file, inbound_rules}
use Rattle.columns.specs.Limits.{kinds}
use Rattle.columns.specs.Refusal.{refuse, first_of, first_in}
use Rattle.columns.specs.declared.refusal.Refusal.TheVariants.{InboundChild, InboundParent}
use Rattle.columns.specs.declared.refusal.Refusal.{Refusal}
use Rattle.lists.proofs.Tests.{tested}
use Rattle.lists.specs.Lists.{up_from}
use Rattle.columns_rules.proofs.records.FileNumbers.{in-file-low, in-file-high}
use Rattle.columns_rules.proofs.records.RecordParts.{there, nothing-there}
use Rattle.columns_sets.specs.counting.GivenEdges.{Edges}
use Rattle.columns_rules.specs.records.Recorded.{inbound_from}
use borrow.Author.Tests.{ltb-true, ltb-false}
use lib.Dec.{ltb, leb}
use lib.ListN.{length, get_or, get_elem?}
use mathlib.Core.Bool.{Bool, true, false, ◌&&◌, not, false≢true}
use mathlib.Core.List.{List, [], ◌∷◌}
use mathlib.Core.Logic.{inl, inr}
use mathlib.Core.Option.{Option, none, some, none-ne-some}
use mathlib.Core.Path.{◌≡◌, refl, sym}
use native.Mathlib.Nat.{not-suc-le-zero, le_of_suc-le-suc}
use native.Mathlib.Omega.{arith}

none-parts : (a b : Option Refusal) → first_of (a ∷ b ∷ []) ≡ none → (a ≡ none) × (b ≡ none)
unfolding first_of
none-parts none none e = (refl, refl)
none-parts none (some x) e = absurd (none-ne-some x (sym e))
none-parts (some x) b e = absurd (none-ne-some x (sym e))

none_each : (f : ℕ → Option Refusal) (i n : ℕ) → first_in f (up_from i n) ≡ none → (j : ℕ) → j < n → f (i + j) ≡ none
unfolding first_in up_from
none_each f i zero e j h = absurd (not-suc-le-zero h)
none_each f i (suc n) e zero h = let z : i + 0 ≡ i = omega arith in rw z (none-parts (f i) (first_in f (up_from (suc i) n)) e).0
none_each f i (suc n) e (suc j) h =
    let z : i + suc j ≡ suc i + j = omega arith in
    rw z (none_each f (suc i) n (none-parts (f i) (first_in f (up_from (suc i) n)) e).1 j (le_of_suc-le-suc h))

has_there : (p : ℕ → Bool) (l : List ℕ) (i : ℕ) → has p (get_elem? l i) ≡ true → (i < length l) × (p (get_or l i 0) ≡ true)
unfolding has
has_there p l i e = elim (tested (ltb i (length l))) [
  | inl t ↦ let h = ltb-true i (length l) t in (h, rw (there l i h) at e)
  | inr t ↦ let z : false ≡ true = rw (nothing-there l i (ltb-false i (length l) t)) at e in absurd (false≢true z)
]

kept-parts : (x y z : Bool) (a b : Refusal) → first_of (refuse a (not x) ∷ refuse b (not (y && z)) ∷ []) ≡ none → (x ≡ true) × (y ≡ true) × (z ≡ true)
unfolding first_of
kept-parts true true true a b e = (refl, refl, refl)
kept-parts true true false a b e = absurd (none-ne-some b (sym e))
kept-parts true false z a b e = absurd (none-ne-some b (sym e))
kept-parts false y z a b e = absurd (none-ne-some a (sym e))

greater-left : (a b : ℕ) → a ≤ greater a b
unfolding greater
greater-left a b = elim (tested (ltb a b)) [ inl e ↦ let h = ltb-true a b e in rw e (omega arith) | inr e ↦ rw e (omega arith) ]

greater-right : (a b : ℕ) → b ≤ greater a b
unfolding greater
greater-right a b = elim (tested (ltb a b)) [ inl e ↦ rw e (omega arith) | inr e ↦ let h = ltb-false a b e in rw e (omega arith) ]

reaches : (n m : ℕ) → ((j : ℕ) → j < n → j < m) → n ≤ m
reaches n m f = elim (tested (ltb m n)) [ inl e ↦ let h = f m (ltb-true m n e) in omega arith | inr e ↦ ltb-false m n e ]

module _ (first rows : ℕ) (cs ps ks : List ℕ) (e : inbound_from first (first + rows) cs ps ks 0 (record_count cs ps ks) ≡ none) where
  at : (j : ℕ) → j < record_count cs ps ks
      → (has (leb (first + rows)) (get_elem? cs j) ≡ true) × (has (in_file first (first + rows)) (get_elem? ps j) ≡ true) × (has (λ k. ltb k kinds) (get_elem? ks j) ≡ true)
  unfolding inbound_from inbound_rules
  at j h =
      let z : 0 + j ≡ j = omega arith in
      kept-parts (has (leb (first + rows)) (get_elem? cs j)) (has (in_file first (first + rows)) (get_elem? ps j)) (has (λ k. ltb k kinds) (get_elem? ks j)) InboundChild InboundParent
      (rw z at (none_each (λ i. inbound_rules kinds first (first + rows) (get_elem? cs i) (get_elem? ps i) (get_elem? ks i)) 0 (record_count cs ps ks) e j h))

  count-cs : record_count cs ps ks ≤ length cs
  count-cs = reaches (record_count cs ps ks) (length cs) (λ j h. (has_there (leb (first + rows)) cs j (at j h).0).0)

  count-ps : record_count cs ps ks ≤ length ps
  count-ps = reaches (record_count cs ps ks) (length ps) (λ j h. (has_there (in_file first (first + rows)) ps j (at j h).1).0)

  count-ks : record_count cs ps ks ≤ length ks
  count-ks = reaches (record_count cs ps ks) (length ks) (λ j h. (has_there (λ k. ltb k kinds) ks j (at j h).2).0)

  more-cs : length cs ≤ record_count cs ps ks
  more-cs = greater-left (length cs) (greater (length ps) (length ks))

  more-ps : length ps ≤ record_count cs ps ks
  more-ps = let a = greater-right (length cs) (greater (length ps) (length ks)) in let b = greater-left (length ps) (length ks) in omega arith

  more-ks : length ks ≤ record_count cs ps ks
  more-ks = let a = greater-right (length cs) (greater (length ps) (length ks)) in let b = greater-right (length ps) (length ks) in omega arith

  pub edges-given : Edges first rows cs ps ks
  edges-given = record {
    parents = omega (arith, count-cs, count-ps, more-cs, more-ps);
    kinds_given = omega (arith, count-cs, count-ks, more-cs, more-ks);
    low = λ i h. in-file-low first rows (get_or ps i 0) (has_there (in_file first (first + rows)) ps i (at i (omega (arith, more-cs))).1).1;
    high = λ i h. in-file-high first rows (get_or ps i 0) (has_there (in_file first (first + rows)) ps i (at i (omega (arith, more-cs))).1).1;
    kind = λ i h. ltb-true (get_or ks i 0) 2 (has_there (λ k. ltb k kinds) ks i (at i (omega (arith, more-cs))).2).1;
  }
