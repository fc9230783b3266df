-- What 17 to 19 give of a set of edges as read: a list for each slot, and in a forward set every parent below its event.
use mathlib.Core.Path.{◌≡◌, refl}
use mathlib.Core.Bool.{Bool, true, false, ◌&&◌, not, false≢true}
use mathlib.Core.List.{List, [], ◌∷◌}
use mathlib.Core.Logic.{◌⊎◌, inl, inr}
use mathlib.Core.Option.{none}
use Prim.Native.Nat.{ℕ, suc, ◌+◌, ◌*◌, ◌≤◌}
use native.Mathlib.Omega.{arith}
use lib.Dec.{ltb, leb, eqb}
use lib.IntN.{ℤ, pos, ◌-ℤ◌}
use lib.ListN.{length}
use borrow.Author.Tests.{ltb-true, ltb-false, eqb-true, not-false}
use Rattle.lists.specs.Lists.{all, Each}
use Rattle.lists.specs.Order.{climbs_to}
use Rattle.lists.proofs.Tests.{both, all-each}
use Rattle.lists.proofs.Each.{each_map, each-imp}
use Rattle.columns.specs.Limits.{Served, end64}
use Rattle.columns.specs.Refusal.{refuse}
use Rattle.columns.specs.EdgeSet.{EdgeSet, forward, from_to, offsets_form, cut_from, cut, event_of, is_number, target_of, allowed, sound}
use Rattle.columns.specs.Reading.{sound_from, targets_from, slots_of, set_rules}
use Rattle.columns.specs.declared.refusal.Refusal.TheVariants.{OffsetsForm, DeltaCount, TargetSide}
use Rattle.cleaning.specs.Routes.{AllBelow}
use Rattle.lists.proofs.From.{EachFrom}
use Rattle.columns.proofs.FirstBroken.{each_none, not-refused, passed}
use Rattle.columns.proofs.Offsets.{cut_from-length, low-high}
use Rattle.columns.proofs.Targets.{length-targets}

-- every parent in a slot of a file that starts at `first` is below the slot's event
abbrev pub SlotBelow : (K : ℕ) → ℕ → ℕ → List ℕ → Type 0
SlotBelow K first slot ps = AllBelow (event_of K first slot) ps

-- ── a list for each slot ─────────────────────────────────────────────────────────────────────

length-slots : (K : ℕ) (served : Served K) (first rows count : ℕ) (offsets : List ℕ) (deltas : List ℤ) → offsets_form K rows count offsets ≡ true
    → length (targets_from K first 0 (cut offsets deltas)) ≡ K * rows
unfolding offsets_form from_to cut targets_from
length-slots K served first rows count [] deltas e = absurd (omega (arith, eqb-true 0 (K * rows + 1) (both (eqb 0 (K * rows + 1)) false e).0))
length-slots K served first rows count (a ∷ bs) deltas e =
    let n = eqb-true (suc (length bs)) (K * rows + 1) (both (eqb (suc (length bs)) (K * rows + 1)) (eqb a 0 && climbs_to count a bs) e).0 in
    omega (arith, length-targets K first 0 (cut_from a bs deltas), cut_from-length a bs deltas)

-- ── parents below ────────────────────────────────────────────────────────────────────────────

sound-below : (K : ℕ) (served : Served K) (first end slot : ℕ) (lists : List (List ℤ)) → sound_from K forward first end slot lists ≡ true
    → EachFrom (SlotBelow K first) slot (targets_from K first slot lists)
unfolding sound_from targets_from sound allowed
sound-below K served first end slot [] e = tt
sound-below K served first end slot (ds ∷ lists) e =
    let p = both (ltb (event_of K first slot) end64 && all (sound forward end (event_of K first slot)) ds) (sound_from K forward first end (suc slot) lists) e in
    let q = both (ltb (event_of K first slot) end64) (all (sound forward end (event_of K first slot)) ds) p.0 in (
      each_map (λ t. suc t ≤ event_of K first slot) (target_of (event_of K first slot)) ds
          (each-imp (λ d. sound forward end (event_of K first slot) d ≡ true) (λ d. suc (target_of (event_of K first slot) d) ≤ event_of K first slot) ds
          (λ d s. ltb-true (target_of (event_of K first slot) d) (event_of K first slot)
          (both (is_number (pos (event_of K first slot) -ℤ d)) (ltb (target_of (event_of K first slot) d) (event_of K first slot)) s).1)
          (all-each (sound forward end (event_of K first slot)) ds q.1)),
      sound-below K served first end (suc slot) lists p.1,
    )

-- without edges every list is empty
empty-below : (K : ℕ) (served : Served K) (first slot : ℕ) (bs : List ℕ) (deltas : List ℤ) → climbs_to 0 0 bs ≡ true
    → EachFrom (SlotBelow K first) slot (targets_from K first slot (cut_from 0 bs deltas))
unfolding climbs_to cut_from targets_from
empty-below K served first slot [] deltas e = tt
empty-below K served first slot (b ∷ bs) deltas e =
    let p = both (leb 0 b) (climbs_to 0 b bs) e in
    let z : b ≡ 0 = omega (arith, low-high 0 b bs p.1) in
    rw z (tt, empty-below K served first (suc slot) bs deltas (rw z at p.1))

cut_below : (K : ℕ) (served : Served K) (first : ℕ) (offsets : List ℕ) (deltas : List ℤ) → from_to 0 0 offsets ≡ true
    → EachFrom (SlotBelow K first) 0 (targets_from K first 0 (cut offsets deltas))
unfolding from_to cut
cut_below K served first [] deltas e = absurd (false≢true e)
cut_below K served first (a ∷ bs) deltas e =
    let p = both (eqb a 0) (climbs_to 0 a bs) e in
    let z : a ≡ 0 = eqb-true a 0 p.0 in
    rw z (empty-below K served first 0 bs deltas (rw z at p.1))

-- ── a set that is not refused ────────────────────────────────────────────────────────────────

module _ (K : ℕ) (served : Served K) (set first rows end : ℕ) (s : EdgeSet) (e : set_rules K set first rows end s ≡ none) where
  rules : Each (λ t. t ≡ none) (refuse OffsetsForm (not (offsets_form K rows s.count s.offsets))
      ∷ refuse DeltaCount (ltb 0 s.count && not (eqb (length s.deltas) s.count))
      ∷ refuse TargetSide (ltb 0 s.count && not (sound_from K set first end 0 (cut s.offsets s.deltas))) ∷ [])
  unfolding set_rules
  rules = each_none _ e

  form : offsets_form K rows s.count s.offsets ≡ true
  form = passed OffsetsForm (offsets_form K rows s.count s.offsets) rules.0

  pub each-slot : length (slots_of K first s) ≡ K * rows
  unfolding slots_of
  each-slot = length-slots K served first rows s.count s.offsets s.deltas form

  sound-or-empty : (b : Bool) → ltb 0 s.count ≡ b
      → (sound_from K set first end 0 (cut s.offsets s.deltas) ≡ true) ⊎ (from_to 0 0 s.offsets ≡ true)
  unfolding offsets_form
  sound-or-empty true l =
      let n = sound_from K set first end 0 (cut s.offsets s.deltas) in
      inl (not-false n (rw l at (not-refused TargetSide (ltb 0 s.count && not n) rules.1.1.0)))
  sound-or-empty false l =
      let z : s.count ≡ 0 = omega (arith, ltb-false 0 s.count l) in
      inr (rw z at (both (eqb (length s.offsets) (K * rows + 1)) (from_to 0 s.count s.offsets) form).1)

pub forward-below : (K : ℕ) (served : Served K) (first rows end : ℕ) (s : EdgeSet) → set_rules K forward first rows end s ≡ none → EachFrom (SlotBelow K first) 0 (slots_of K first s)
unfolding slots_of
forward-below K served first rows end s e = elim (sound-or-empty K served forward first rows end s e (ltb 0 s.count) refl) [
  | inl h ↦ sound-below K served first end 0 (cut s.offsets s.deltas) h
  | inr h ↦ cut_below K served first s.offsets s.deltas h
]
