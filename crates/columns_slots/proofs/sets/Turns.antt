-- The turns of the loops that check offsets and deltas, and the tests between them, as laws of the definitions.
use Rattle.std.specs.Prelude.{Err, Ok}
use mathlib.Core.Path.{◌≡◌, refl, sym, ap, ◌∙◌}
use mathlib.Core.Bool.{Bool, true, false, ◌&&◌, not}
use mathlib.Core.List.{List, [], ◌∷◌}
use Prim.Native.Nat.{ℕ, ◌≤◌, ◌<◌, ◌+◌, ◌-◌, ◌*◌, ◌/◌, ◌%◌, ◌^◌}
use native.Mathlib.Nat.{div-add-mod, mul-div_right, mul-mod_right}
use native.Mathlib.Numerals.{add-one}
use native.Mathlib.Omega.{arith}
use lib.Dec.{leb, ltb, eqb}
use lib.IntN.{ℤ, pos}
use lib.ListN.{length, get_or, drop, drop_of_length-le}
use lib.Seq.{slice, drop-cons}
use mir.Syntax.{w64}
use mir.Val.{Fits, to_z, of_z}
use borrow.Author.Tests.{le-leb, lt-leb, lt-ltb, le-ltb, eq-eqb, ne_eqb, ltb-true, leb-true, not-true, not-false}
use Rattle.lists.specs.Lists.{all}
use Rattle.lists.specs.Order.{climbs_to}
use Rattle.lists.proofs.Tests.{same_test}
use Rattle.columns.specs.Limits.{end64, Served}
use Rattle.columns.specs.Refusal.{first_of}
use Rattle.columns.specs.EdgeSet.{cut, from_to, offsets_form, sound}
use Rattle.columns.specs.Reading.{sound_from, set_rules, label_rules}
use Rattle.columns.specs.Answers.{short32, columns_of, label_columns, ruling}
use Rattle.columns.specs.declared.refusal.Refusal.TheVariants.{OffsetsForm, DeltaCount, TargetSide, LabelColumns, LabelRange}
use Rattle.columns.proofs.Offsets.{form-climbs, form-length}

-- ── offsets ──────────────────────────────────────────────────────────────────────────────────

module _ {t : Bool} (high low i : ℕ) (l : List ℕ) (e : t ≡ climbs_to high low (drop i l)) where
  pub climb-done : length l ≤ i → eqb low high ≡ t
  unfolding climbs_to
  climb-done h = rw (e, drop_of_length-le l {i = i} h)

  pub climb-falls : i < length l → get_or l i 0 < low → false ≡ t
  unfolding climbs_to
  climb-falls h k = rw (e, drop-cons l i 0, lt-leb low (get_or l i 0) k)

  pub climb-on : i < length l → low ≤ get_or l i 0 → t ≡ climbs_to high (get_or l i 0) (drop (i + 1) l)
  unfolding climbs_to
  climb-on h k = rw (e, drop-cons l i 0, le-leb low (get_or l i 0) k, add-one)

module _ (K rows count : ℕ) (l : List ℕ) where
  pub no-offsets : length l ≡ 0 → false ≡ offsets_form K rows count l
  unfolding offsets_form
  no-offsets h = rw (ne_eqb (length l) (K * rows + 1) (λ e. omega arith))

  module _ (served : Served K) where
    pub part-row : ((length l - 1) % K ≡ 0 → ⊥) → false ≡ offsets_form K rows count l
    unfolding offsets_form
    part-row h = rw (ne_eqb (length l) (K * rows + 1) (λ e. h (let i : length l - 1 ≡ K * rows = omega arith in rw (i, mul-mod_right K rows))))

    pub other-rows : ((length l - 1) / K ≡ rows → ⊥) → false ≡ offsets_form K rows count l
    unfolding offsets_form
    other-rows h = rw (ne_eqb (length l) (K * rows + 1) (λ e. h (let i : length l - 1 ≡ K * rows = omega arith in rw (i, mul-div_right rows served.some))))

  module _ (g : length l ≡ 0 → ⊥) (h : (length l - 1) % K ≡ 0) (k : (length l - 1) / K ≡ rows) where
    whole-rows : length l ≡ K * rows + 1
    whole-rows = let i : K * rows + (length l - 1) % K ≡ length l - 1 = rw (← k) (div-add-mod (length l - 1) K) in omega arith

    rest : (os : List ℕ) → 0 < length os → from_to 0 count os ≡ (eqb (get_or os 0 0) 0 && climbs_to count (get_or os 0 0) (drop 1 os))
    unfolding from_to
    rest [] f = absurd (omega arith)
    rest (x ∷ xs) f = refl

    formed : offsets_form K rows count l ≡ (eqb (get_or l 0 0) 0 && climbs_to count (get_or l 0 0) (drop 1 l))
    unfolding offsets_form
    formed = rw (eq-eqb (length l) (K * rows + 1) whole-rows) (rest l (omega arith))

    pub starts-late : (get_or l 0 0 ≡ 0 → ⊥) → false ≡ offsets_form K rows count l
    starts-late f = rw (formed, ne_eqb (get_or l 0 0) 0 f)

    pub then-climbs : (r : Bool) → get_or l 0 0 ≡ 0 → r ≡ climbs_to count 0 (drop 1 l) → r ≡ offsets_form K rows count l
    then-climbs r f e = rw (formed, f) e

-- ── deltas ───────────────────────────────────────────────────────────────────────────────────

pub row_number : (first row : ℕ) → Fits w64 row → leb first (18446744073709551615 - row) ≡ ltb (first + row) (2 ^ 64)
row_number first row f =
    same_test (leb first (18446744073709551615 - row)) (ltb (first + row) (2 ^ 64))
    (λ e. lt-ltb (first + row) (2 ^ 64) (omega (arith, f.fits, leb-true first (18446744073709551615 - row) e)))
    (λ e. le-leb first (18446744073709551615 - row) (omega (arith, ltb-true (first + row) (2 ^ 64) e)))

-- the delta at a place, as the machine reads it back from its bits
abbrev pub at : List ℤ → ℕ → ℤ
at ds i = to_z w64 (of_z w64 (get_or ds i (pos 0)))

-- ── rows ─────────────────────────────────────────────────────────────────────────────────────

module _ (first row : ℕ) (b : Bool) (e : b ≡ ltb (first + row) end64) where
  pub no-event : (p : Bool) → not b ≡ true → false ≡ (ltb (first + row) end64 && p)
  no-event p h = rw (sym e ∙ not-true b h)

  module _ (h : not b ≡ false) where
    pub an-event : first + row < end64
    an-event = ltb-true _ _ (sym e ∙ not-false b h)

    -- an event's deltas that stand in a column from one place up to another
    pub deltas-tell : (set end event from to : ℕ) (deltas list : List ℤ) (r : Bool) → list ≡ slice from to deltas → event ≡ first + row
        → r ≡ all (sound set end event) (slice from to deltas) → r ≡ (ltb (first + row) end64 && all (sound set end (first + row)) list)
    deltas-tell set end event from to deltas list r l i p = rw (sym e ∙ not-false b h, l, ← i) p

-- ── the rules of one set ─────────────────────────────────────────────────────────────────────

module _ (K set first rows end count : ℕ) (offsets : List ℕ) (deltas : List ℤ) (b : Bool) (e : b ≡ offsets_form K rows count offsets) where
  pub bad-form : not b ≡ true → Err OffsetsForm ≡ ruling (set_rules K set first rows end (columns_of count offsets deltas))
  unfolding set_rules first_of
  bad-form h = rw (sym e ∙ not-true b h)

  module _ (h : not b ≡ false) where
    pub no_edges : count ≡ 0 → (Ok tt) ≡ ruling (set_rules K set first rows end (columns_of count offsets deltas))
    unfolding set_rules first_of
    no_edges k = rw (sym e ∙ not-false b h, le-ltb 0 count (omega arith))

    module _ (k : count ≡ 0 → ⊥) where
      pub bad-count : (length deltas ≡ count → ⊥) → Err DeltaCount ≡ ruling (set_rules K set first rows end (columns_of count offsets deltas))
      unfolding set_rules first_of
      bad-count f = rw (sym e ∙ not-false b h, lt-ltb 0 count (omega arith), ne_eqb (length deltas) count f)

      module _ (f : length deltas ≡ count) where
        pub deltas-whole : length offsets ≡ K * rows + 1
        deltas-whole = form-length K rows count offsets (sym e ∙ not-false b h)

        pub deltas-climb : from_to 0 (length deltas) offsets ≡ true
        deltas-climb = rw f (form-climbs K rows count offsets (sym e ∙ not-false b h))

        module _ (r : Bool) (g : r ≡ sound_from K set first end 0 (cut offsets deltas)) where
          pub bad-side : not r ≡ true → Err TargetSide ≡ ruling (set_rules K set first rows end (columns_of count offsets deltas))
          unfolding set_rules first_of
          bad-side q = rw (sym e ∙ not-false b h, lt-ltb 0 count (omega arith), eq-eqb (length deltas) count f, sym g ∙ not-true r q)

          pub all-kept : not r ≡ false → (Ok tt) ≡ ruling (set_rules K set first rows end (columns_of count offsets deltas))
          unfolding set_rules first_of
          all-kept q = rw (sym e ∙ not-false b h, lt-ltb 0 count (omega arith), eq-eqb (length deltas) count f, sym g ∙ not-false r q)

-- ── label columns ────────────────────────────────────────────────────────────────────────────

module _ (rows : ℕ) (chains seqs : List ℕ) where
  pub bad-chains : (length chains ≡ rows → ⊥) → Err LabelColumns ≡ ruling (label_rules rows (label_columns chains seqs))
  unfolding label_rules first_of
  bad-chains h = rw (ne_eqb (length chains) rows h)

  module _ (h : length chains ≡ rows) where
    pub bad-seqs : (length seqs ≡ rows → ⊥) → Err LabelColumns ≡ ruling (label_rules rows (label_columns chains seqs))
    unfolding label_rules first_of
    bad-seqs k = rw (eq-eqb (length chains) rows h, ne_eqb (length seqs) rows k)

    module _ (k : length seqs ≡ rows) (b : Bool) (e : b ≡ all short32 chains) where
      pub long-chain : not b ≡ true → Err LabelRange ≡ ruling (label_rules rows (label_columns chains seqs))
      unfolding label_rules first_of
      long-chain f = rw (eq-eqb (length chains) rows h, eq-eqb (length seqs) rows k, sym e ∙ not-true b f)

      module _ (f : not b ≡ false) (c : Bool) (g : c ≡ all short32 seqs) where
        pub long-seq : not c ≡ true → Err LabelRange ≡ ruling (label_rules rows (label_columns chains seqs))
        unfolding label_rules first_of
        long-seq q = rw (eq-eqb (length chains) rows h, eq-eqb (length seqs) rows k, sym e ∙ not-false b f, sym g ∙ not-true c q)

        pub labels_kept : not c ≡ false → (Ok tt) ≡ ruling (label_rules rows (label_columns chains seqs))
        unfolding label_rules first_of
        labels_kept q = rw (eq-eqb (length chains) rows h, eq-eqb (length seqs) rows k, sym e ∙ not-false b f, sym g ∙ not-false c q)

-- a set by its number
pub by_number : (K : ℕ) {r : Bool} {n k : ℕ} (first end : ℕ) (offsets : List ℕ) (deltas : List ℤ) → n ≡ k → r ≡ sound_from K n first end 0 (cut offsets deltas)
    → r ≡ sound_from K k first end 0 (cut offsets deltas)
by_number K first end offsets deltas e f = f ∙ ap (λ m. sound_from K m first end 0 (cut offsets deltas)) e
