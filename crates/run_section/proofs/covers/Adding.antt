-- The ranges of a group's rows added to the table, and of a group without a cover: none.
use mathlib.Core.Path.{◌≡◌, ap, sym, ◌∙◌}
use mathlib.Core.Bool.{Bool, true}
use mathlib.Core.List.{List, []}
use Prim.Native.Nat.{ℕ, ◌+◌, ◌-◌, ◌*◌, ◌≤◌}
use native.Mathlib.Numerals.{add-one}
use native.Mathlib.Omega.{arith}
use lib.ListN.{length, get_or, take}
use borrow.Author.Tests.{eq-eqb, ne_eqb}
use Rattle.lists.proofs.Flat.{length-map-up_from}
use Rattle.columns.specs.Reading.{labels_of}
use Rattle.columns.specs.Building.{seqs_rise}
use Rattle.cover.specs.Chains.{ranges_of}
use Rattle.run_state.specs.declared.Groups.{Groups}
use Rattle.run_section.specs.declared.Counts.{Counts}
use Rattle.run_section.specs.declared.Span.{Span}
use Rattle.run_section.specs.declared.covers.Added.{Added}
use Rattle.run_section.specs.declared.covers.Labels.{Labels}
use Rattle.run_section.specs.declared.covers.Ranges.{Ranges}
use Rattle.run_section.specs.Sections.{SortedTable, SpanAt}
use Rattle.run_section.specs.Covers.{Labelled, labels_from, start_at, labels_at, ranges_at, rises_at, range_in, ranges_in, laid, AddedTo}
use Rattle.run_section.proofs.covers.Labelling.{labelled-fewer}

-- ── the labels of rows ───────────────────────────────────────────────────────────────────────

ranges-count : (r : Ranges) → length (ranges_in r) ≡ r.count
unfolding ranges_in
ranges-count r = length-map-up_from (range_in r) 0 r.count

pub added : (rows : List ℕ) (a n at : ℕ) (l : Labels) (b : Bool) (r : Ranges) (was is : List ℕ)
    → labels_of (take n l.chains) (take n l.seqs) ≡ labels_from rows a n → b ≡ seqs_rise [] (labels_of (take n l.chains) (take n l.seqs))
    → ranges_in r ≡ ranges_of (labels_of (take n l.chains) (take n l.seqs)) → is ≡ laid at (ranges_in r) was
    → AddedTo (ranges_of (labels_from rows a n)) (seqs_rise [] (labels_from rows a n)) was is at (record { count = r.count; rises = b })
added rows a n at l b r was is e f g h =
    let q : ranges_in r ≡ ranges_of (labels_from rows a n) = g ∙ ap ranges_of e in
    record { count_is = sym (ranges-count r) ∙ ap length q; rises_is = f ∙ ap (seqs_rise []) e; table_is = h ∙ ap (λ rs. laid at rs was) q }

-- ── a group ──────────────────────────────────────────────────────────────────────────────────

module _ (z : Counts) (groups : Groups) (g : ℕ) (rows was : List ℕ) (at : ℕ) where
  pub none-added : get_or groups.covered g 0 ≡ 0 → AddedTo (ranges_at z groups rows g) (rises_at z groups rows g) was was at (record { count = 0; rises = true })
  unfolding ranges_at rises_at laid
  none-added e =
      let f = eq-eqb (get_or groups.covered g 0) 0 e in
      record { count_is = rw f; rises_is = rw f; table_is = rw f }

  pub group_added : (s : Span) (is : List ℕ) (r : Added) → (get_or groups.covered g 0 ≡ 0 → ⊥) → SpanAt 4 z.rows rows g (g + 1) s
      → AddedTo (ranges_of (labels_from rows s.from (s.to - s.from))) (seqs_rise [] (labels_from rows s.from (s.to - s.from))) was is at r
      → AddedTo (ranges_at z groups rows g) (rises_at z groups rows g) was is at r
  unfolding ranges_at rises_at labels_at
  group_added s is r e p d =
      let f = ne_eqb (get_or groups.covered g 0) 0 e in
      rw (f, ← add-one g, ← p.from_is, ← p.to_is) d

module _ (z : Counts) (g : ℕ) (rows : List ℕ) (s : Span) (p : SpanAt 4 z.rows rows g (g + 1) s) where
  pub added-room : (at : ℕ) → at ≤ start_at z rows g → z.rows ≤ 1024 → at + (s.to - s.from) ≤ 1024
  added-room at h l = omega (arith, p.from_is, p.rises, p.within)

  pub added-there : SortedTable 4 z.rows rows → (s.from + (s.to - s.from)) * 4 ≤ length rows
  added-there t = omega (arith, p.rises, p.within, t.there)

  pub added-labelled : Labelled z.rows rows → Labelled (s.from + (s.to - s.from)) rows
  added-labelled l = labelled-fewer z.rows (s.from + (s.to - s.from)) rows (omega (arith, p.rises, p.within)) l
