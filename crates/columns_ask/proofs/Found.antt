-- The list of a number and a kind in a set whose rules are kept: how long it is, and the slot that holds it.
use mathlib.Core.Path.{◌≡◌, refl, ◌∙◌, ap, sym}
use mathlib.Core.Bool.{Bool, true, false, cond}
use mathlib.Core.List.{List, [], ◌∷◌}
use Prim.Native.Nat.{ℕ, zero, suc, ◌≤◌, ◌<◌, ◌+◌, ◌-◌, ◌*◌, ◌/◌, ◌^◌}
use native.Mathlib.Nat.{mul-le-mul_left, mul-div_right}
use native.Mathlib.Omega.{arith}
use lib.Dec.{ltb}
use lib.IntN.{ℤ}
use lib.ListN.{length, get_or, length-append, length-map, length-drop, length-take, get_or-eq_default}
use lib.Seq.{sets, slice}
use borrow.Author.Tests.{lt-ltb, le-ltb, ltb-true, ltb-false}
use Rattle.lists.specs.Lists.{joined}
use Rattle.lists.proofs.Tests.{tested}
use Rattle.columns.specs.Limits.{max_numbers, Served}
use Rattle.columns.specs.EdgeSet.{cut, cut_from, event_of, target_of}
use Rattle.columns.specs.Reading.{targets_from, slots_of}
use Rattle.columns.specs.Questions.{list_of}
use Rattle.columns.specs.Answers.{kind_of, columns_of}
use Rattle.columns.specs.Readable.{Readable, Edged}
use Rattle.columns.specs.declared.kind.Kind.{Kind}
use Rattle.columns.specs.declared.kind.Kind.TheVariants.{Prev, Auth}
use Rattle.lists.proofs.Slots.{slot_row, row_room}
use Rattle.columns.proofs.Offsets.{cut-length, form-length}
use Rattle.columns.proofs.Checks.{kept-form, edged}
use Rattle.columns.proofs.Targets.{no_edges, length-targets, slot_order, slot-count}
use mir.Syntax.{w64}
use mir.Val.{Fits}
use mathlib.Core.Logic.{inl, inr}

pub kind-in : (K : ℕ) → Served K → (k : Kind) (n : ℕ) → n ≡ kind_of k → n < K
kind-in K s Prev n e = omega arith
kind-in K s Auth n e = omega arith

-- ── the list of a number ─────────────────────────────────────────────────────────────────────

-- no list is longer than all of them
in-joined : (ls : List (List ℕ)) (q : ℕ) → length (get_or ls q []) ≤ length (joined ls)
unfolding joined
in-joined [] q = omega arith
in-joined (l ∷ ls) zero = omega (arith, length-append l (joined ls))
in-joined (l ∷ ls) (suc q) = omega (arith, length-append l (joined ls), in-joined ls q)

nothing : (l : List ℕ) → length l ≤ 0 → l ≡ []
nothing [] h = refl
nothing (x ∷ l) h = absurd (omega arith)

-- a place among the offsets is a number of 64 bits
place-fits : (q : ℕ) (offsets : List ℕ) → length offsets * 8 < 2 ^ 63 → q ≤ length offsets → Fits w64 q
place-fits q offsets g h = record { fits = omega arith }

module _ (K first count : ℕ) (offsets : List ℕ) (deltas : List ℤ) (kind number : ℕ) where
  slots_length : length (slots_of K first (columns_of count offsets deltas)) ≡ length offsets - 1
  unfolding slots_of
  slots_length = length-targets K first 0 (cut offsets deltas) ∙ cut-length offsets deltas

  below-granule : number < first → list_of K first (slots_of K first (columns_of count offsets deltas)) kind number ≡ []
  unfolding list_of
  below-granule h = rw (lt-ltb number first h)

  inside-list : first ≤ number → list_of K first (slots_of K first (columns_of count offsets deltas)) kind number
      ≡ get_or (slots_of K first (columns_of count offsets deltas)) (K * (number - first) + kind) []
  unfolding list_of
  inside-list h = rw (le-ltb number first h)

  pub none_below : number < first → 0 ≡ length (list_of K first (slots_of K first (columns_of count offsets deltas)) kind number)
  none_below h = rw (below-granule h)

  module _ (r : Readable K first (columns_of count offsets deltas)) where
    without-edges : count ≡ 0 → list_of K first (slots_of K first (columns_of count offsets deltas)) kind number ≡ []
    unfolding list_of
    without-edges h = go (ltb number first)
      where
        go : (b : Bool) → cond b [] (get_or (slots_of K first (columns_of count offsets deltas)) (K * (number - first) + kind) []) ≡ []
        go true = refl
        go false =
            let k : length (joined (slots_of K first (columns_of count offsets deltas))) ≡ 0 = ap length (no_edges K first count offsets deltas r h) in
            nothing _ (omega (arith, in-joined (slots_of K first (columns_of count offsets deltas)) (K * (number - first) + kind)))

    pub none-without : count ≡ 0 → 0 ≡ length (list_of K first (slots_of K first (columns_of count offsets deltas)) kind number)
    none-without h = rw (without-edges h)

    whole : length offsets ≡ K * r.rows + 1
    whole = form-length K r.rows count offsets (kept-form K r.set first r.rows r.end (columns_of count offsets deltas) r.kept)

    pub an-offset : 1 ≤ length offsets
    an-offset = omega (arith, whole)

    module _ (some : 0 < K) where
      row_count : (length offsets - 1) / K ≡ r.rows
      row_count = let i : length offsets - 1 ≡ K * r.rows = omega (arith, whole) in rw i (mul-div_right r.rows some)

      past-granule : first ≤ number → (length offsets - 1) / K ≤ number - first → list_of K first (slots_of K first (columns_of count offsets deltas)) kind number ≡ []
      past-granule h k =
          let l : r.rows ≤ number - first = rw row_count at k in
          inside-list h ∙ get_or-eq_default (slots_of K first (columns_of count offsets deltas)) [] {n = K * (number - first) + kind} (omega (arith, slots_length, whole, mul-le-mul_left K l))

      pub none-past : first ≤ number → (length offsets - 1) / K ≤ number - first → 0 ≡ length (list_of K first (slots_of K first (columns_of count offsets deltas)) kind number)
      none-past h k = rw (past-granule h k)

    -- the slot of a number of the granule, in a set with edges
    module _ (some : 0 < K) (c : count ≡ 0 → ⊥) (h : first ≤ number) (k : number - first < (length offsets - 1) / K) (i : kind < K) where
      pub next-in : K * (number - first) + kind + 1 < length offsets
      next-in =
          let l : number - first < r.rows = rw (row_count some) at k in
          omega (arith, whole, row_room K (K * (number - first)) (number - first) refl r.rows l)

      module _ (g : length offsets * 8 < 2 ^ 63) where
        pub row-place : Fits w64 (K * (number - first))
        row-place = place-fits (K * (number - first)) offsets g (omega (arith, next-in))

        pub slot-place : Fits w64 (K * (number - first) + kind)
        slot-place = place-fits (K * (number - first) + kind) offsets g (omega (arith, next-in))

        pub slot-bytes : Fits w64 ((K * (number - first) + kind) * 8)
        slot-bytes = record { fits = omega (arith, next-in) }

        pub next-bytes : Fits w64 ((K * (number - first) + kind + 1) * 8)
        next-bytes = record { fits = omega (arith, next-in) }

        pub next_place : Fits w64 (K * (number - first) + kind + 1)
        next_place = place-fits (K * (number - first) + kind + 1) offsets g (omega (arith, next-in))

      pub slot_in : K * (number - first) + kind < length offsets
      slot_in = omega (arith, next-in)

      with-edges : Edged K first offsets deltas
      with-edges = edged K first count offsets deltas r c

      slot_of : list_of K first (slots_of K first (columns_of count offsets deltas)) kind number ≡ get_or (targets_from K first 0 (cut offsets deltas)) (K * (number - first) + kind) []
      unfolding slots_of
      slot_of = inside-list h

      pub slot-rises : get_or offsets (K * (number - first) + kind) 0 ≤ get_or offsets (K * (number - first) + kind + 1) 0
      slot-rises = slot_order K first offsets deltas with-edges (K * (number - first) + kind) next-in (event_of K first (K * (number - first) + kind)) _ _ refl refl refl

      pub slot-length : get_or offsets (K * (number - first) + kind + 1) 0 - get_or offsets (K * (number - first) + kind) 0
          ≡ length (list_of K first (slots_of K first (columns_of count offsets deltas)) kind number)
      slot-length = rw slot_of (sym (slot-count K first offsets deltas with-edges (K * (number - first) + kind) next-in (event_of K first (K * (number - first) + kind)) _ _ refl refl refl))

    -- the same by the list's length
    module _ (n : ℕ) (e : n ≡ length (list_of K first (slots_of K first (columns_of count offsets deltas)) kind number)) where
      module _ (z : n ≡ 0) where
        empty : list_of K first (slots_of K first (columns_of count offsets deltas)) kind number ≡ []
        empty = nothing (list_of K first (slots_of K first (columns_of count offsets deltas)) kind number) (omega arith)

        pub empty-ends : (at : ℕ) → at ≡ at + length (list_of K first (slots_of K first (columns_of count offsets deltas)) kind number)
        empty-ends at = omega arith

        pub empty-put : (at : ℕ) (out : List ℕ) → out ≡ sets out at (list_of K first (slots_of K first (columns_of count offsets deltas)) kind number)
        empty-put at out = rw empty

      module _ (some : 0 < K) (s : n ≡ 0 → ⊥) (i : kind < K) where
        pub some_edges : count ≡ 0 → ⊥
        some_edges h = s (e ∙ ap length (without-edges h))

        pub in-granule : first ≤ number
        in-granule = elim (tested (ltb number first)) [
          | inl t ↦ absurd (s (e ∙ ap length (below-granule (ltb-true number first t))))
          | inr t ↦ ltb-false number first t
        ]

        in_rows : number - first < (length offsets - 1) / K
        in_rows = elim (tested (ltb (number - first) ((length offsets - 1) / K))) [
          | inl t ↦ ltb-true (number - first) ((length offsets - 1) / K) t
          | inr t ↦ absurd (s (e ∙ ap length (past-granule some in-granule (ltb-false (number - first) ((length offsets - 1) / K) t))))
        ]

        pub there : K * (number - first) + kind + 1 < length offsets
        there = next-in some some_edges in-granule in_rows i

        pub there-event : number ≡ event_of K first (K * (number - first) + kind)
        there-event = rw (slot_row K (number - first) kind i) (omega (arith, in-granule))

        pub there-edged : Edged K first offsets deltas
        there-edged = with-edges some some_edges in-granule in_rows i

        module _ (g : length offsets * 8 < 2 ^ 63) where
          pub row_fits : Fits w64 (K * (number - first))
          row_fits = place-fits (K * (number - first)) offsets g (omega (arith, there))

          pub slot-fits : Fits w64 (K * (number - first) + kind)
          slot-fits = place-fits (K * (number - first) + kind) offsets g (omega (arith, there))

        slot-there : list_of K first (slots_of K first (columns_of count offsets deltas)) kind number ≡ get_or (targets_from K first 0 (cut offsets deltas)) (K * (number - first) + kind) []
        slot-there = slot_of some some_edges in-granule in_rows i

        pub list-ends : (at m : ℕ) → m ≡ at + length (get_or (targets_from K first 0 (cut offsets deltas)) (K * (number - first) + kind) [])
            → m ≡ at + length (list_of K first (slots_of K first (columns_of count offsets deltas)) kind number)
        list-ends at m f = rw slot-there f

        pub list_put : (at : ℕ) (was out : List ℕ) → out ≡ sets was at (get_or (targets_from K first 0 (cut offsets deltas)) (K * (number - first) + kind) [])
            → out ≡ sets was at (list_of K first (slots_of K first (columns_of count offsets deltas)) kind number)
        list_put at was out f = rw slot-there f

length_part : (a b : ℕ) (l : List ℤ) → length (slice a b l) ≤ length l
length_part a b l = simp (length-drop, length-take) (omega arith)

length_cut : (a : ℕ) (bs : List ℕ) (deltas : List ℤ) (q : ℕ) → length (get_or (cut_from a bs deltas) q []) ≤ length deltas
unfolding cut_from
length_cut a [] deltas q = omega arith
length_cut a (b ∷ bs) deltas zero = length_part a b deltas
length_cut a (b ∷ bs) deltas (suc q) = length_cut b bs deltas q

length-lists : (K first s : ℕ) (lists : List (List ℤ)) (q : ℕ) → length (get_or (targets_from K first s lists) q []) ≡ length (get_or lists q [])
unfolding targets_from
length-lists K first s [] q = refl
length-lists K first s (ds ∷ lists) zero = length-map ds (target_of (event_of K first s))
length-lists K first s (ds ∷ lists) (suc q) = length-lists K first (suc s) lists q

length-slots : (offsets : List ℕ) (deltas : List ℤ) (q : ℕ) → length (get_or (cut offsets deltas) q []) ≤ length deltas
unfolding cut
length-slots [] deltas q = omega arith
length-slots (a ∷ bs) deltas q = length_cut a bs deltas q

-- a list has no more numbers than its set has deltas
pub list-few : (K first count : ℕ) (offsets : List ℕ) (deltas : List ℤ) (kind number n : ℕ) → Readable K first (columns_of count offsets deltas)
    → n ≡ 0 + length (list_of K first (slots_of K first (columns_of count offsets deltas)) kind number) → n ≤ max_numbers
unfolding list_of slots_of
list-few K first count offsets deltas kind number n r e = omega (arith, e, r.few, go (ltb number first))
  where
    go : (b : Bool) → length (cond b [] (get_or (targets_from K first 0 (cut offsets deltas)) (K * (number - first) + kind) [])) ≤ length deltas
    go true = omega arith
    go false =
        let q = K * (number - first) + kind in
        omega (arith, length-lists K first 0 (cut offsets deltas) q, length-slots offsets deltas q)

-- two lists together
pub two-fit : (K first rc : ℕ) (ro : List ℕ) (rd : List ℤ) (ic : ℕ) (io : List ℕ) (id : List ℤ) (kind number n m : ℕ)
    → Readable K first (columns_of rc ro rd) → Readable K first (columns_of ic io id)
    → n ≡ length (list_of K first (slots_of K first (columns_of rc ro rd)) kind number) → m ≡ length (list_of K first (slots_of K first (columns_of ic io id)) kind number) → Fits w64 (n + m)
two-fit K first rc ro rd ic io id kind number n m r i e f =
    record { fits = omega (arith, list-few K first rc ro rd kind number n r (omega arith), list-few K first ic io id kind number m i (omega arith)) }
