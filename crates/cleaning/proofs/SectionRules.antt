-- Building a group's file of a tidy sheet whose slots keep 4 and 5: what its columns are makes the other rules hold, but for those that are left.
use mathlib.Core.Path.{◌≡◌, refl, ap, ap₂, ◌∙◌}
use mathlib.Core.Bool.{true, ◌&&◌, not}
use mathlib.Core.Logic.{inl, inr}
use mathlib.Core.List.{List, [], ◌∷◌}
use mathlib.Core.Option.{none}
use Prim.Native.Nat.{ℕ, suc, ◌+◌, ◌≤◌, ◌<◌}
use native.Mathlib.Omega.{arith}
use lib.Dec.{ltb}
use lib.ListN.{length}
use borrow.Author.Tests.{lt-ltb, le-ltb, ltb-true}
use Rattle.lists.specs.Lists.{all, filter, joined, starts, mem, distinct, up_from, Each}
use Rattle.lists.specs.Order.{rises_above, rising}
use Rattle.lists.proofs.Tests.{tested, both, all-of}
use Rattle.lists.proofs.Each.{each-imp, each-flat}
use Rattle.lists.proofs.Filters.{filter_passes}
use Rattle.lists.proofs.Rising.{filter-rising, up_from-rising}
use Rattle.columns.specs.Limits.{Served, end64}
use Rattle.columns.specs.Refusal.{refuse, first_of}
use Rattle.columns.specs.EdgeSet.{offsets_form}
use Rattle.columns.specs.Building.{in_file, slot_rules, numbers_ok, seqs_rise, labels_rules, all_unresolved_rules, all_inbound_rules, naming, inbound_lists, deltas_fit}
use Rattle.columns.specs.Building.{granule_start, reverse_part, inbound_part, build_rules}
use Rattle.columns.specs.declared.refusal.Refusal.TheVariants.{EdgeEntries, NumberRange, SeqNotRising, InboundTwice, GranuleRows, DeltaRange}
use Rattle.columns.proofs.ReadBack.{cut-joined, starts-form}
use Rattle.columns.proofs.FirstBroken.{passes, fails}
use Rattle.columns.proofs.Turned.{each-table}
use Rattle.cleaning.specs.Sheet.{Sheet, row_count, parents_at}
use Rattle.cleaning.specs.Writing.{inbound_columns, unresolved_columns}
use Rattle.cleaning.specs.Sections.{Tidy, facts_of, section_start, section_rows, section_first, section_end, sheet_end, section_lists, section_labels, section_unresolved}
use Rattle.cleaning.specs.Sections.{section_children, row_edges, other_rows, section_edges, labels_where, section_graph, section_faults}
use Rattle.cleaning.proofs.Groups.{others-not-mem}
use Rattle.cleaning.proofs.Inbound.{EdgeInto, edges-into, Inbound}
use Rattle.cleaning.proofs.FirstRules.{skip, then, one-test}
use Rattle.cleaning.proofs.RowRules.{labels-rules, in-file, before-file, past-file, unresolved-kinds, inbound-none}
use Rattle.cleaning.proofs.Places.{range}
use Rattle.cleaning.proofs.SheetRows.{section-end, section-within}
use Rattle.cleaning.proofs.SheetLabels.{labels-uncovered, labels-count}
use Rattle.cleaning.proofs.SheetLists.{row-good, section_slots}
use Rattle.cleaning.proofs.Within.{deltas-halves}
use Rattle.cleaning.proofs.SectionSets.{others-outside, lists_length, within-section, inbound-section, children-fit, starts-section, section-forward, section-reverse, section-inbound}

-- ── numbers that rise ────────────────────────────────────────────────────────────────────────

above-each : (low : ℕ) (xs : List ℕ) → rises_above low xs ≡ true → Each (λ x. low < x) xs
unfolding rises_above
above-each low [] h = tt
above-each low (x ∷ xs) h =
    let q = both (ltb low x) (rises_above x xs) h in
    let l = ltb-true low x q.0 in
    (l, each-imp (λ y. x < y) (λ y. low < y) xs (λ y m. omega arith) (above-each x xs q.1))

rises-distinct : (x : ℕ) (xs : List ℕ) → rises_above x xs ≡ true → distinct (x ∷ xs) ≡ true
unfolding rises_above distinct mem
rises-distinct x [] h = refl
rises-distinct x (y ∷ ys) h =
    rw (others-not-mem x (y ∷ ys) (each-imp (λ z. x < z) (λ z. x ≡ z → ⊥) (y ∷ ys) (λ z l d. omega arith) (above-each x (y ∷ ys) h)))
    (rises-distinct y ys (both (ltb x y) (rises_above y ys) h).1)

rising-distinct : (xs : List ℕ) → rising xs ≡ true → distinct xs ≡ true
unfolding rising distinct
rising-distinct [] h = refl
rising-distinct (x ∷ xs) h = rises-distinct x xs h

module _ (K : ℕ) (served : Served K) (s : Sheet) (t : Tidy K s) (g : ℕ) where
  -- ── 6, 7, 9, 10 ────────────────────────────────────────────────────────────────────────────

  -- the children of a group's unresolved records are its numbers
  unresolved-within : Each (λ u. in_file (section_first s g) (section_end s g) u.child ≡ true) (section_unresolved s g)
  unresolved-within =
      let first = section_first s g in
      let end = section_end s g in
      rw (← range (λ u. u.child) (λ u. in_file first end u.child) first end (omega (arith, section-end K served s t g)) (λ u l. before-file first end u.child l)
      (λ u l h. in-file first end u.child l h) (λ u l. past-file first end u.child l) s.unresolved t.child_order)
      (filter_passes (λ u. in_file first end u.child) s.unresolved)

  labels-section : labels_rules (section_rows s g) (labels_where (facts_of s g).covered (section_labels s g)) ≡ refuse SeqNotRising (not (seqs_rise [] (section_labels s g)))
  unfolding seqs_rise
  labels-section = elim (tested (facts_of s g).covered) [
    | inl c ↦ rw c (labels-rules (section_rows s g) (section_labels s g) (labels-count K served s t g c))
    | inr c ↦ rw (c, labels-uncovered K served s t g c)
  ]

  module _ (e : slot_rules K s.start 0 s.lists ≡ none) where
    -- ── 11 to 13 ───────────────────────────────────────────────────────────────────────────────

    -- an edge of another row into the group's numbers comes from past them: its parent is earlier
    edges-section : Each (Inbound K (section_first s g) (section_end s g)) (section_edges K s g)
    unfolding row_edges
    edges-section =
        let first = section_first s g in
        let end = section_end s g in
        each-flat (Inbound K first end) (row_edges K s first end) (other_rows s g)
        (each-imp (λ i. (i < row_count s) × (section_start s g ≤ i → section_start s (suc g) ≤ i)) (λ i. Each (Inbound K first end) (row_edges K s first end i)) (other_rows s g)
        (λ i w. let good = row-good K served s t e i w.0 in
        each-imp (EdgeInto first end (s.start + i) 0 K) (Inbound K first end) (row_edges K s first end i)
        (λ d h. let l : section_start s g ≤ i = omega (arith, h.low, h.below) in (omega (arith, h.child, w.1 l), h.low, h.high, h.kind))
        (edges-into first end (s.start + i) K 0 (parents_at K s i) (omega (arith, good.each_kind)) good.below)) (others-outside K served s t g))

    module _ (r : s.start + row_count s < end64) where
      edges-distinct : all distinct (inbound_lists K (section_first s g) (section_rows s g) (inbound_columns (section_edges K s g))) ≡ true
      unfolding naming
      edges-distinct =
          let inside = in_file (section_end s g) (sheet_end s) in
          let lists : ℕ → ℕ → List ℕ = naming K s.start (row_count s) s.lists in
          rw (inbound-section K served s t g e r, within-section K served s t g (section_end s g) (sheet_end s))
          (all-of distinct _
          (each-table K (λ x k. filter inside (lists x k)) (section_first s g) (section_rows s g) (λ l. distinct l ≡ true)
          (λ x k. rising-distinct (filter inside (lists x k))
          (filter-rising inside (lists x k) (filter-rising _ (up_from s.start (row_count s)) (up_from-rising s.start (row_count s)))))))

      -- ── all rules ────────────────────────────────────────────────────────────────────────────

      pub section-rules : build_rules K (section_graph K s g) ≡ section_faults K s g
      unfolding build_rules section_graph section_faults numbers_ok all_unresolved_rules unresolved_columns all_inbound_rules inbound_columns
      section-rules =
          let first = section_first s g in
          let end = section_end s g in
          let n = section_rows s g in
          let lists = section_lists K s g in
          let children = section_children K s g in
          let graph = section_graph K s g in
          let last : first + n ≡ end = omega (arith, section-end K served s t g) in
          then _ _ refl
          (skip _ _ (passes EdgeEntries (offsets_form K n (length (joined lists)) (starts 0 lists)) (starts-form K n lists (lists_length K served s t g)))
          (skip _ _ (passes NumberRange (ltb (first + n) end64) (lt-ltb (first + n) end64 (omega (arith, section-end K served s t g, section-within K served s t g))))
          (skip _ _ (ap (slot_rules K first 0) (cut-joined lists) ∙ section_slots K served s t e g)
          (then _ _ (rw last (unresolved-kinds K served first end (section_unresolved s g) unresolved-within))
          (then _ _ refl
          (then _ _ labels-section
          (skip _ _ (rw last (inbound-none K served first end (section_edges K s g) edges-section))
          (skip _ _ (passes InboundTwice (all distinct (inbound_lists K first n (inbound_columns (section_edges K s g)))) edges-distinct)
          (skip _ _ (fails GranuleRows (ltb n (0 + n)) (le-ltb n (0 + n) (omega arith)))
          (then _ _ (ap₂ (λ i ls. refuse DeltaRange (not (deltas_fit K i ls))) (starts-section K served s t g) (section-forward K served s t g))
          (one-test DeltaRange (deltas_fit K (granule_start graph) (reverse_part K graph)) (deltas_fit K (granule_start graph) (inbound_part K graph))
          ∙ ap (λ b. first_of (refuse DeltaRange (not b) ∷ []))
          (ap₂ (λ a b. a && b) (ap₂ (deltas_fit K) (starts-section K served s t g) (section-reverse K served s t g e))
          (ap₂ (deltas_fit K) (starts-section K served s t g) (section-inbound K served s t g e r))
          ∙ deltas-halves K served end (sheet_end s) first children (children-fit K served s t g e r)))))))))))))
