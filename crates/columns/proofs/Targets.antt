-- Where a slot's targets stand among all: the slots have as many lists as the deltas, and a set without edges has no targets.
use mathlib.Core.Path.{◌≡◌, refl, ap}
use mathlib.Core.Bool.{true, ◌&&◌}
use mathlib.Core.List.{List, [], ◌∷◌, map}
use Prim.Native.Nat.{ℕ, zero, suc, ◌≤◌, ◌<◌, ◌+◌, ◌-◌}
use native.Mathlib.Nat.{zero-add, add-zero, add-suc, suc-add}
use native.Mathlib.Omega.{arith}
use lib.Dec.{ltb, leb, eqb}
use lib.IntN.{ℤ}
use lib.ListN.{length, get_or, length-map}
use lib.Seq.{slice, length-slice}
use borrow.Author.Tests.{ltb-true}
use Rattle.lists.specs.Lists.{all, joined}
use Rattle.lists.specs.Order.{climbs_to}
use Rattle.lists.proofs.Tests.{both}
use Rattle.lists.proofs.Slices.{slice-none}
use Rattle.columns.specs.Limits.{end64}
use Rattle.columns.specs.EdgeSet.{cut, cut_from, event_of, from_to, target_of, sound}
use Rattle.columns.specs.Reading.{sound_from, targets_from, slots_of}
use Rattle.columns.specs.Answers.{named, columns_of}
use Rattle.columns.specs.Readable.{Readable, Edged}
use Rattle.columns.proofs.Offsets.{slot-cut, cut-length, ordered, inside, low-high, form-climbs}
use Rattle.columns.proofs.Checks.{kept-form}

-- ── one slot ────────────────────────────────────────────────────────────────────────────────────

pub length-targets : (K first s : ℕ) (lists : List (List ℤ)) → length (targets_from K first s lists) ≡ length lists
unfolding targets_from
length-targets K first s [] = refl
length-targets K first s (ds ∷ lists) = ap suc (length-targets K first (suc s) lists)

targets-at : (K first s : ℕ) (lists : List (List ℤ)) (q : ℕ) → q < length lists → get_or (targets_from K first s lists) q [] ≡ map (target_of (event_of K first (s + q))) (get_or lists q [])
unfolding targets_from
targets-at K first s [] q h = absurd (omega arith)
targets-at K first s (ds ∷ lists) zero h = rw (add-zero s)
targets-at K first s (ds ∷ lists) (suc q) h = rw (add-suc s q, ← suc-add s q) (targets-at K first (suc s) lists q (omega arith))

sides-at : (K set first end s : ℕ) (lists : List (List ℤ)) (q : ℕ) → sound_from K set first end s lists ≡ true → q < length lists
    → (ltb (event_of K first (s + q)) end64 ≡ true) × (all (sound set end (event_of K first (s + q))) (get_or lists q []) ≡ true)
unfolding sound_from
sides-at K set first end s [] q e h = absurd (omega arith)
sides-at K set first end s (ds ∷ lists) zero e h = rw (add-zero s) (both _ _ (both _ _ e).0)
sides-at K set first end s (ds ∷ lists) (suc q) e h = rw (add-suc s q, ← suc-add s q)
    (sides-at K set first end (suc s) lists q (both (ltb (event_of K first s) end64 && all (sound set end (event_of K first s)) ds) _ e).1 (omega arith))

pub sides-named : (set end event : ℕ) (ds : List ℤ) → all (sound set end event) ds ≡ true → all (named event) ds ≡ true
unfolding all sound named
sides-named set end event [] e = refl
sides-named set end event (d ∷ ds) e =
    let p = both (sound set end event d) _ e in
    rw (both (named event d) _ p.0).0 (sides-named set end event ds p.1)

pub targets-count : (event from to : ℕ) (ds : List ℤ) → to ≤ length ds → length (map (target_of event) (slice from to ds)) ≡ to - from
targets-count event from to ds h = rw length-map (length-slice from to ds h)

module _ (K first : ℕ) (offsets : List ℕ) (deltas : List ℤ) (r : Edged K first offsets deltas) (slot : ℕ) (h : slot + 1 < length offsets) where
  in_cut : slot < length (cut offsets deltas)
  in_cut = omega (arith, cut-length offsets deltas)

  sides : (ltb (event_of K first slot) end64 ≡ true) × (all (sound r.set r.end (event_of K first slot)) (get_or (cut offsets deltas) slot []) ≡ true)
  sides = rw (zero-add slot) at (sides-at K r.set first r.end 0 (cut offsets deltas) slot r.sides in_cut)

  pub slot-event : event_of K first slot < end64
  slot-event = ltb-true _ _ sides.0

  module _ (event from to : ℕ) (e : event ≡ event_of K first slot) (f : from ≡ get_or offsets slot 0) (g : to ≡ get_or offsets (slot + 1) 0) where
    pub slot_order : from ≤ to
    slot_order = ordered (length deltas) offsets r.climbs slot h from to f g

    pub slot_inside : to ≤ length deltas
    slot_inside = inside (length deltas) offsets r.climbs slot h from to f g

    pub slot-named : all (named event) (slice from to deltas) ≡ true
    slot-named = rw (← slot-cut offsets deltas slot from to h f g, e) (sides-named r.set r.end (event_of K first slot) _ sides.1)

    pub slot-list : get_or (targets_from K first 0 (cut offsets deltas)) slot [] ≡ map (target_of event) (slice from to deltas)
    slot-list = rw (targets-at K first 0 (cut offsets deltas) slot in_cut, zero-add slot, slot-cut offsets deltas slot from to h f g, e)

    pub slot-count : length (get_or (targets_from K first 0 (cut offsets deltas)) slot []) ≡ to - from
    slot-count = rw slot-list (targets-count event from to deltas slot_inside)

-- ── a set without edges ──────────────────────────────────────────────────────────────────────

none_from : (K first slot a : ℕ) (bs : List ℕ) (deltas : List ℤ) → climbs_to 0 a bs ≡ true → joined (targets_from K first slot (cut_from a bs deltas)) ≡ []
unfolding climbs_to joined targets_from cut_from
none_from K first slot a [] deltas e = refl
none_from K first slot a (b ∷ bs) deltas e =
    let p = both (leb a b) (climbs_to 0 b bs) e in
    let k : b ≤ 0 = low-high 0 b bs p.1 in
    rw (slice-none a b deltas (omega arith)) (none_from K first (suc slot) b bs deltas p.1)

no-lists : (K first : ℕ) (offsets : List ℕ) (deltas : List ℤ) → from_to 0 0 offsets ≡ true → joined (targets_from K first 0 (cut offsets deltas)) ≡ []
unfolding from_to cut joined targets_from
no-lists K first [] deltas e = refl
no-lists K first (a ∷ bs) deltas e = none_from K first 0 a bs deltas (both (eqb a 0) _ e).1

pub no_edges : (K first count : ℕ) (offsets : List ℕ) (deltas : List ℤ) → Readable K first (columns_of count offsets deltas) → count ≡ 0
    → joined (slots_of K first (columns_of count offsets deltas)) ≡ []
unfolding slots_of
no_edges K first count offsets deltas r h = no-lists K first offsets deltas
    (rw h at (form-climbs K r.rows count offsets (kept-form K r.set first r.rows r.end (columns_of count offsets deltas) r.kept)))
