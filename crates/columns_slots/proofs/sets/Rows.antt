-- All slots of a row at once, however many kinds there are: the list that they hold together, and the turns of the loops that go row by row.
use mathlib.Core.Path.{◌≡◌, refl, ◌∙◌, ap}
use mathlib.Core.Bool.{Bool, true, false, ◌&&◌, not}
use mathlib.Core.List.{List, [], ◌∷◌, ◌++◌, map, map-append, append-nil}
use Prim.Native.Nat.{ℕ, zero, suc, ◌≤◌, ◌<◌, ◌+◌, ◌-◌, ◌*◌}
use native.Mathlib.Nat.{le_trans, add-zero, mul-le-mul_left}
use native.Mathlib.Numerals.{add-one}
use native.Mathlib.Omega.{arith}
use lib.Dec.{ltb}
use lib.IntN.{ℤ}
use lib.ListN.{length, get_or, take, drop, take-append-drop, length-drop, drop_of_length-le}
use lib.Seq.{slice, slice_empty, sets, drop-cons, drop-drop}
use mir.Syntax.{w64}
use mir.Val.{Fits}
use borrow.Author.Tests.{ltb-true, not-true, not-false}
use Rattle.lists.specs.Lists.{all, joined, part}
use Rattle.lists.proofs.Flat.{joined-append}
use Rattle.lists.proofs.Tests.{both, all_append}
use Rattle.lists.proofs.Slices.{slice-join}
use Rattle.lists.proofs.Slots.{slot_row, row_room, rows-past}
use Rattle.columns.specs.Limits.{end64, max_numbers}
use Rattle.columns.specs.EdgeSet.{cut, event_of, from_to, target_of, sound}
use Rattle.columns.specs.Reading.{sound_from, targets_from}
use Rattle.columns.specs.Answers.{named}
use Rattle.columns.specs.Readable.{Edged}
use Rattle.columns.proofs.Offsets.{slot-cut, cut-length, ordered, inside}
use Rattle.columns.proofs.Targets.{sides-named, targets-count}
use Rattle.columns_slots.proofs.sets.Writes.{onward, no_more}

-- ── slots one after the other ────────────────────────────────────────────────────────────────

module _ (offsets : List ℕ) (deltas : List ℤ) (e : from_to 0 (length deltas) offsets ≡ true) where
  span-order : (n slot : ℕ) → slot + n < length offsets → get_or offsets slot 0 ≤ get_or offsets (slot + n) 0
  span-order zero slot h = rw (add-zero slot) (omega arith)
  span-order (suc n) slot h =
      let on : slot + suc n ≡ slot + 1 + n = omega arith in
      rw on (le_trans (ordered (length deltas) offsets e slot (omega arith) _ (get_or offsets (slot + 1) 0) refl refl) (span-order n (slot + 1) (omega arith)))

  span-inside : (n slot : ℕ) → 0 < n → slot + n < length offsets → get_or offsets (slot + n) 0 ≤ length deltas
  span-inside zero slot p h = absurd (omega arith)
  span-inside (suc n) slot p h =
      let on : slot + suc n ≡ slot + n + 1 = omega arith in
      rw on (inside (length deltas) offsets e (slot + n) (omega arith) (get_or offsets (slot + n) 0) (get_or offsets (slot + n + 1) 0) refl refl)

  pub span-cut : (n slot : ℕ) → slot + n < length offsets → joined (part slot n (cut offsets deltas)) ≡ slice (get_or offsets slot 0) (get_or offsets (slot + n) 0) deltas
  unfolding part joined
  span-cut zero slot h = rw (add-zero slot, slice_empty (get_or offsets slot 0) deltas)
  span-cut (suc n) slot h =
      let on : slot + suc n ≡ slot + 1 + n = omega arith in
      let i : slot < length (cut offsets deltas) = omega (arith, cut-length offsets deltas) in
      rw (
        drop-cons (cut offsets deltas) slot [] i,
        ← add-one slot,
        span-cut n (slot + 1) (omega arith),
        on,
        slot-cut offsets deltas slot (get_or offsets slot 0) (get_or offsets (slot + 1) 0) (omega arith) refl refl,
      )
      (slice-join (get_or offsets slot 0) (get_or offsets (slot + 1) 0) (get_or offsets (slot + 1 + n) 0) deltas
      (ordered (length deltas) offsets e slot (omega arith) _ (get_or offsets (slot + 1) 0) refl refl) (span-order n (slot + 1) (omega arith))
      (rw on at (span-inside (suc n) slot (omega arith) h)))

module _ (K : ℕ) (some : 0 < K) (offsets : List ℕ) (deltas : List ℤ) (e : from_to 0 (length deltas) offsets ≡ true) (slot : ℕ) (h : slot + K < length offsets)
    (from to : ℕ) (f : from ≡ get_or offsets slot 0) (g : to ≡ get_or offsets (slot + K) 0) where
  pub row-climbs : from ≤ to
  row-climbs = rw (f, g) (span-order offsets deltas e K slot h)

  pub row_inside : to ≤ length deltas
  row_inside = rw g (span-inside offsets deltas e K slot some h)

  pub row_cut : joined (part slot K (cut offsets deltas)) ≡ slice from to deltas
  row_cut = rw (f, g) (span-cut offsets deltas e K slot h)

-- ── slots of one event ───────────────────────────────────────────────────────────────────────

in_row : (a b c d : Bool) → (a && b && (a && c && d)) ≡ (a && (b && c) && d)
in_row true true c d = refl
in_row true false c d = refl
in_row false b c d = refl

module _ (K first event : ℕ) where
  -- the n slots from one on are of the event
  abbrev OneEvent : ℕ → ℕ → Type 0
  OneEvent slot n = (k : ℕ) → k < n → event_of K first (slot + k) ≡ event

  this-one : (n slot : ℕ) → OneEvent slot (suc n) → event_of K first slot ≡ event
  this-one n slot ev = rw (add-zero slot) at (ev 0 (omega arith))

  next_one : (n slot : ℕ) → OneEvent slot (suc n) → OneEvent (suc slot) n
  next_one n slot ev k h = let on : suc slot + k ≡ slot + suc k = omega arith in rw on (ev (suc k) (omega arith))

  block-sound : (set end n slot : ℕ) (lists : List (List ℤ)) → OneEvent slot n → 0 < n → n ≤ length lists
      → sound_from K set first end slot lists ≡ (ltb event end64 && all (sound set end event) (joined (take n lists)) && sound_from K set first end (slot + n) (drop n lists))
  unfolding sound_from joined
  block-sound set end zero slot lists ev p h = absurd (omega arith)
  block-sound set end (suc n) slot [] ev p h = absurd (omega arith)
  block-sound set end (suc zero) slot (ds ∷ lists) ev p h =
      let on : slot + suc zero ≡ suc slot = omega arith in
      rw (this-one zero slot ev, on, append-nil ds)
  block-sound set end (suc (suc n)) slot (ds ∷ lists) ev p h =
      let on : slot + suc (suc n) ≡ suc slot + suc n = omega arith in
      rw (this-one (suc n) slot ev, block-sound set end (suc n) (suc slot) lists (next_one (suc n) slot ev) (omega arith) (omega arith), on, all_append)
      (in_row (ltb event end64) (all (sound set end event) ds) (all (sound set end event) (joined (take (suc n) lists))) (sound_from K set first end (suc slot + suc n) (drop (suc n) lists)))

  block-targets : (n slot : ℕ) (lists : List (List ℤ)) → OneEvent slot n → joined (take n (targets_from K first slot lists)) ≡ map (target_of event) (joined (take n lists))
  unfolding targets_from joined
  block-targets zero slot lists ev = refl
  block-targets (suc n) slot [] ev = refl
  block-targets (suc n) slot (ds ∷ lists) ev = rw (this-one n slot ev, block-targets n (suc slot) lists (next_one n slot ev), map-append)

drop-targets : (K first n slot : ℕ) (lists : List (List ℤ)) → drop n (targets_from K first slot lists) ≡ targets_from K first (slot + n) (drop n lists)
unfolding targets_from
drop-targets K first zero slot lists = rw (add-zero slot)
drop-targets K first (suc n) slot [] = refl
drop-targets K first (suc n) slot (ds ∷ lists) = let on : slot + suc n ≡ suc slot + n = omega arith in rw on (drop-targets K first n (suc slot) lists)

drop-sound : (K set first end n slot : ℕ) (lists : List (List ℤ)) → sound_from K set first end slot lists ≡ true → sound_from K set first end (slot + n) (drop n lists) ≡ true
unfolding sound_from
drop-sound K set first end zero slot lists e = rw (add-zero slot) e
drop-sound K set first end (suc n) slot [] e = refl
drop-sound K set first end (suc n) slot (ds ∷ lists) e =
    let on : slot + suc n ≡ suc slot + n = omega arith in
    rw on (drop-sound K set first end n (suc slot) lists (both (ltb (event_of K first slot) end64 && all (sound set end (event_of K first slot)) ds) _ e).1)

row-event-of : (K first row slot : ℕ) → slot ≡ K * row → (k : ℕ) → k < K → event_of K first (slot + k) ≡ first + row
row-event-of K first row slot e k h = rw (e, slot_row K row k h)

pub row_next : (K rows row slot : ℕ) (offsets : List ℕ) → slot ≡ K * row → length offsets ≡ K * rows + 1 → row < rows → slot + K < length offsets
row_next K rows row slot offsets e w h = omega (arith, row_room K slot row e rows h)

-- ── the sides, row by row ────────────────────────────────────────────────────────────────────

module _ (K : ℕ) (some : 0 < K) {t : Bool} (set first end rows row slot : ℕ) (offsets : List ℕ) (deltas : List ℤ)
    (e : t ≡ sound_from K set first end slot (drop slot (cut offsets deltas))) (at : slot ≡ K * row) (whole : length offsets ≡ K * rows + 1) where
  pub rows-done : rows ≤ row → true ≡ t
  unfolding sound_from
  rows-done h = rw (e, drop_of_length-le (cut offsets deltas) {i = slot} (omega (arith, cut-length offsets deltas, mul-le-mul_left K h)))

  module _ (h : row < rows) (b : Bool) (g : b ≡ (ltb (first + row) end64 && all (sound set end (first + row)) (joined (part slot K (cut offsets deltas))))) where
    row-then : t ≡ (b && sound_from K set first end (slot + K) (drop (slot + K) (cut offsets deltas)))
    unfolding part
    row-then =
        let k : K ≤ length (drop slot (cut offsets deltas)) = rw length-drop (omega (arith, cut-length offsets deltas, row_room K slot row at rows h)) in
        rw (e, g, block-sound K first (first + row) set end K slot (drop slot (cut offsets deltas)) (row-event-of K first row slot at) some k, drop-drop K slot (cut offsets deltas))

    pub rows-stop : not b ≡ true → false ≡ t
    rows-stop f = rw (row-then, not-true b f)

    pub rows_on : not b ≡ false → t ≡ sound_from K set first end (slot + K) (drop (slot + K) (cut offsets deltas))
    rows_on f = rw (row-then, not-false b f)

-- ── the targets, row by row ──────────────────────────────────────────────────────────────────

module _ (K first : ℕ) (offsets : List ℕ) (deltas : List ℤ) (some : 0 < K) (r : Edged K first offsets deltas) (row slot : ℕ) (i : slot ≡ K * row) (h : slot + K < length offsets) where
  row-sides : (ltb (first + row) end64 ≡ true) × (all (sound r.set r.end (first + row)) (joined (part slot K (cut offsets deltas))) ≡ true)
  unfolding part
  row-sides =
      let zero-slot : 0 + slot ≡ slot = omega arith in
      let k : K ≤ length (drop slot (cut offsets deltas)) = rw length-drop (omega (arith, cut-length offsets deltas)) in
      let s : sound_from K r.set first r.end slot (drop slot (cut offsets deltas)) ≡ true = rw zero-slot at (drop-sound K r.set first r.end slot 0 (cut offsets deltas) r.sides) in
      both _ _ (both (ltb (first + row) end64 && all (sound r.set r.end (first + row)) (joined (take K (drop slot (cut offsets deltas))))) _
      (rw (block-sound K first (first + row) r.set r.end K slot (drop slot (cut offsets deltas)) (row-event-of K first row slot i) some k) at s)).0

  pub row-event : first + row < end64
  row-event = ltb-true _ _ row-sides.0

  module _ (from to : ℕ) (f : from ≡ get_or offsets slot 0) (g : to ≡ get_or offsets (slot + K) 0) where
    pub row-order : from ≤ to
    row-order = row-climbs K some offsets deltas r.climbs slot h from to f g

    pub row_within : to ≤ length deltas
    row_within = row_inside K some offsets deltas r.climbs slot h from to f g

    pub row_fits : (at : ℕ) → at ≤ max_numbers → Fits w64 (at + (to - from))
    row_fits at k = record { fits = omega (arith, row_within, r.few) }

    module _ (event : ℕ) (e : event ≡ first + row) where
      pub row_named : all (named event) (slice from to deltas) ≡ true
      row_named = rw (e, ← row_cut K some offsets deltas r.climbs slot h from to f g) (sides-named r.set r.end (first + row) _ row-sides.1)

      row_list : joined (part slot K (targets_from K first 0 (cut offsets deltas))) ≡ map (target_of event) (slice from to deltas)
      unfolding part
      row_list =
          let zero-slot : 0 + slot ≡ slot = omega arith in
          rw (drop-targets K first slot 0 (cut offsets deltas), zero-slot, block-targets K first (first + row) K slot (drop slot (cut offsets deltas)) (row-event-of K first row slot i), e)
          (ap (map (target_of (first + row))) (row_cut K some offsets deltas r.climbs slot h from to f g))

      row_count : length (joined (part slot K (targets_from K first 0 (cut offsets deltas)))) ≡ to - from
      row_count = rw row_list (targets-count event from to deltas row_within)

      pub row_ends : (at n : ℕ) → n ≡ at + (to - from) → n ≡ at + length (joined (part slot K (targets_from K first 0 (cut offsets deltas))))
      row_ends at n i = rw row_count i

      pub row_written : (at : ℕ) (was out : List ℕ) → out ≡ sets was at (map (target_of event) (slice from to deltas))
          → out ≡ sets was at (joined (part slot K (targets_from K first 0 (cut offsets deltas))))
      row_written at was out i = rw row_list i

  pub row-few : (at : ℕ) → at ≡ get_or offsets slot 0 → at ≤ max_numbers
  row-few at e = omega (arith, row-order at (get_or offsets (slot + K) 0) e refl, row_within at (get_or offsets (slot + K) 0) e refl, r.few)

  pub row-onward : onward K first offsets deltas slot ≡ joined (part slot K (targets_from K first 0 (cut offsets deltas))) ++ onward K first offsets deltas (slot + K)
  unfolding part
  row-onward =
      let lists = targets_from K first 0 (cut offsets deltas) in
      rw (← drop-drop K slot lists, ← joined-append (take K (drop slot lists)) (drop K (drop slot lists)), take-append-drop K (drop slot lists))

  pub next-offset : (at next : ℕ) → at ≡ get_or offsets slot 0
      → next ≡ at + length (joined (part slot K (targets_from K first 0 (cut offsets deltas))))
      → next ≡ get_or offsets (slot + K) 0
  next-offset at next e f =
      let from = get_or offsets slot 0 in
      let to = get_or offsets (slot + K) 0 in
      let k : from ≤ to = row-order from to refl refl in
      let n : next ≡ at + (to - from) = f ∙ rw (row_count from to refl refl (first + row) refl) in
      omega arith

-- the end of the loop over rows
module _ (K first : ℕ) (offsets : List ℕ) (deltas : List ℤ) (r : Edged K first offsets deltas) (row slot at : ℕ) (i : slot ≡ K * row) (h : length offsets ≤ slot + K) where
  past-slots : length offsets ≤ slot + 1
  past-slots = omega (arith, r.whole, rows-past K slot row i r.rows (omega (arith, r.whole)))

  pub all_written : {t : List ℕ} (out : List ℕ) → t ≡ sets out at (onward K first offsets deltas slot) → out ≡ t
  all_written out e = rw (e, no_more K first offsets deltas slot past-slots)

  pub all-counted : {n : ℕ} → n ≡ at + length (onward K first offsets deltas slot) → at ≡ n
  all-counted e = rw (e, no_more K first offsets deltas slot past-slots) (omega arith)
