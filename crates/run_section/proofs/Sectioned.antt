-- The section of a group in the tables is the section of the sheet that they stand for.
use mathlib.Core.Path.{◌≡◌, refl, sym, ap, ◌∙◌}
use mathlib.Core.Bool.{Bool, true, false, ◌&&◌, not}
use mathlib.Core.List.{List, [], ◌∷◌, map}
use mathlib.Core.Option.{Option, none, some}
use Prim.Native.Nat.{ℕ, suc, ◌+◌, ◌-◌, ◌*◌, ◌<◌}
use native.Mathlib.Omega.{arith}
use native.Mathlib.Nat.{zero-add}
use native.Mathlib.Numerals.{add-one}
use lib.Dec.{ltb}
use lib.ListN.{length, drop}
use borrow.Author.Tests.{le-leb}
use Rattle.lists.specs.Lists.{all}
use Rattle.lists.proofs.Flat.{length-map-up_from, get_or-map-up_from}
use Rattle.columns.specs.Limits.{kinds, end64, max_subject}
use Rattle.columns.proofs.Served.{kinds-served}
use Rattle.columns.specs.Refusal.{refuse, first_of}
use Rattle.columns.specs.EdgeSet.{cut}
use Rattle.columns.specs.Building.{subject_ok, depth_ok, slot_rules, seqs_rise, deltas_fit, build_rules}
use Rattle.columns.specs.declared.refusal.Refusal.{Refusal}
use Rattle.columns.specs.declared.refusal.Refusal.TheVariants.{DeltaRange}
use Rattle.archive_bytes.specs.Bytes.{several}
use Rattle.archive.proofs.Back.{length-several}
use Rattle.cleaning.specs.Sheet.{Sheet, row_count}
use Rattle.cleaning.specs.Sections.{place, between, section_start, section_rows, section_first, section_tags, section_lists, section_labels, section_unresolved}
use Rattle.cleaning.specs.Sections.{section_roots, section_links, section_children, child_lists, facts_of, section_graph, section_faults}
use Rattle.cleaning.specs.Held.{no_facts}
use Rattle.cleaning.proofs.SectionRules.{section-rules}
use Rattle.run_state.specs.declared.Groups.{Groups}
use Rattle.run_state.specs.View.{facts_at}
use Rattle.run_section.specs.declared.Counts.{Counts}
use Rattle.run_section.specs.declared.Section.{Section}
use Rattle.run_section.specs.declared.Span.{Span}
use Rattle.run_section.specs.declared.rules.Known.{Known}
use Rattle.run_section.specs.Tables.{field, keys, unresolved_in, root_in, link_in, sheet_of}
use Rattle.run_section.specs.Sections.{SpanAt, SectionAt}
use Rattle.run_section.specs.Rules.{faults, kind_fits, depth_in, KnownOf, spans_in}
use Rattle.run_section.specs.Ready.{Ready, Children}
use Rattle.run_section.proofs.Records.{several-from, several-map}

-- ── the records of a span ────────────────────────────────────────────────────────────────────

-- records by their first number: those whose figure is from low up to high are those of the span
module _ {A : Type 0} (w : ℕ) (f : List ℕ → A) (key : A → ℕ) (same : (r : List ℕ) → key (f r) ≡ field 0 r) where
  keys-are : (n : ℕ) (t : List ℕ) → map key (several w f n t) ≡ keys w n t
  unfolding keys
  keys-are n t = several-map w f key (field 0) same n t

  pub records-between : (n low high : ℕ) (t : List ℕ) (s : Span) → SpanAt w n t low high s
      → between key low high (several w f n t) ≡ several w f (s.to - s.from) (drop (s.from * w) t)
  unfolding between
  records-between n low high t s h =
      rw (keys-are n t, ← h.from_is, ← h.to_is) (several-from w f n s.from (s.to - s.from) t (omega (arith, h.rises, h.within)))

-- ── tests ────────────────────────────────────────────────────────────────────────────────────

and-true : (b : Bool) → b && true ≡ b
and-true true = refl
and-true false = refl

-- two tests for one refusal are one
last-two : (a b c d : Option Refusal) (x y : Bool) → first_of (a ∷ b ∷ c ∷ d ∷ refuse DeltaRange (not x) ∷ refuse DeltaRange (not y) ∷ [])
    ≡ first_of (a ∷ b ∷ c ∷ d ∷ refuse DeltaRange (not (x && y)) ∷ [])
unfolding first_of
last-two none none none none true true = refl
last-two none none none none true false = refl
last-two none none none none false y = refl
last-two none none none (some r) x y = refl
last-two none none (some r) d x y = refl
last-two none (some r) c d x y = refl
last-two (some r) b c d x y = refl

-- ── one section ──────────────────────────────────────────────────────────────────────────────

module _ (z : Counts) (subject : List ℕ) (groups : Groups) (rows unresolved roots links offsets targets : List ℕ) where
  abbrev S : Sheet
  S = sheet_of z subject groups rows unresolved roots links offsets targets

  pub rows-count : row_count S ≡ z.rows
  unfolding sheet_of
  rows-count = length-several 4 (field 1) z.rows rows

  pub groups_count : length S.groups ≡ groups.count
  unfolding sheet_of
  groups_count = length-map-up_from (facts_at groups) 0 groups.count

  pub facts-are : (g : ℕ) → g < groups.count → facts_of S g ≡ facts_at groups g
  unfolding sheet_of
  facts-are g h = get_or-map-up_from (facts_at groups) 0 groups.count g no_facts h ∙ ap (facts_at groups) (zero-add g)

  module _ (g : ℕ) (s : Section) (h : SectionAt z g rows unresolved roots links s) where
    pub start_is : section_start S g ≡ s.rows.from
    unfolding section_start sheet_of
    start_is = sym h.rows_span.from_is

    pub end_is : section_start S (suc g) ≡ s.rows.to
    unfolding section_start sheet_of
    end_is = ap (λ n. place n (keys 4 z.rows rows)) (sym (add-one g)) ∙ sym h.rows_span.to_is

    pub rows_are : section_rows S g ≡ s.rows.to - s.rows.from
    unfolding section_rows
    rows_are = rw (start_is, end_is)

    pub tags-are : section_tags S g ≡ several 4 (field 1) (s.rows.to - s.rows.from) (drop (s.rows.from * 4) rows)
    unfolding sheet_of
    tags-are =
        rw (start_is, rows_are) (several-from 4 (field 1) z.rows s.rows.from (s.rows.to - s.rows.from) rows (omega (arith, h.rows_span.rises, h.rows_span.within)))

    pub unresolved-are : section_unresolved S g ≡ several 3 unresolved_in (s.unresolved.to - s.unresolved.from) (drop (s.unresolved.from * 3) unresolved)
    unfolding sheet_of
    unresolved-are =
        rw (start_is, end_is)
        (records-between 3 unresolved_in (λ u. u.child) (λ r. refl) z.unresolved (z.start + s.rows.from) (z.start + s.rows.to) unresolved s.unresolved h.unresolved_at)

    pub roots-are : section_roots S g ≡ map (λ r. record { row = r.row - s.rows.from; handle = r.handle }) (several 2 root_in (s.roots.to - s.roots.from) (drop (s.roots.from * 2) roots))
    unfolding sheet_of
    roots-are =
        rw (start_is, end_is)
        (ap (map (λ r. record { row = r.row - s.rows.from; handle = r.handle }))
        (records-between 2 root_in (λ r. r.row) (λ r. refl) z.roots s.rows.from s.rows.to roots s.roots h.roots_at))

    pub links-are : section_links S g ≡ map (λ l. l.link) (several 5 link_in (s.links.to - s.links.from) (drop (s.links.from * 5) links))
    unfolding sheet_of
    links-are =
        ap (map (λ l. l.link))
        (ap (λ n. between (λ l. l.group) g n (several 5 link_in z.links links)) (sym (add-one g))
        ∙ records-between 5 link_in (λ l. l.group) (λ r. refl) z.links g (g + 1) links s.links h.links_span)

    -- ── its rules ────────────────────────────────────────────────────────────────────────────

    module _ (ready : Ready z subject groups rows unresolved roots links offsets targets) (there : g < groups.count) {starts kids : List ℕ}
        (children : Children z offsets targets starts kids) where
      pub same_once : slot_rules kinds S.start 0 S.lists ≡ none
      unfolding sheet_of
      same_once = ready.once

      pub same_end : S.start + row_count S < end64
      unfolding sheet_of
      same_end = omega (arith, rows-count, ready.few.end)

      lists-are : deltas_fit kinds (section_first S g) (section_lists kinds S g) ≡ spans_in z.start s.rows.from (s.rows.to - s.rows.from) offsets targets
      unfolding sheet_of spans_in
      lists-are = rw (start_is, rows_are)

      pub all-children : child_lists kinds S ≡ cut starts kids
      unfolding child_lists sheet_of
      all-children = rw (rows-count) (sym children.are)

      children-are : deltas_fit kinds (section_first S g) (section_children kinds S g) ≡ spans_in z.start s.rows.from (s.rows.to - s.rows.from) starts kids
      unfolding sheet_of spans_in
      children-are = rw (all-children, start_is, rows_are)

      named : subject_ok S.subject ≡ ltb 0 (length subject)
      unfolding sheet_of subject_ok
      named = rw (le-leb (length subject) max_subject ready.few.short) (and-true (ltb 0 (length subject)))

      kinds-are : all (λ u. ltb u.kind kinds) (section_unresolved S g) ≡ all kind_fits (several 3 unresolved_in (s.unresolved.to - s.unresolved.from) (drop (s.unresolved.from * 3) unresolved))
      kinds-are = ap (all kind_fits) unresolved-are

      pub rules-are : {k : Known} {rises : Bool} → KnownOf groups g k → rises ≡ seqs_rise [] (section_labels S g)
          → build_rules kinds (section_graph kinds S g) ≡ faults (ltb 0 (length subject))
          (all kind_fits (several 3 unresolved_in (s.unresolved.to - s.unresolved.from) (drop (s.unresolved.from * 3) unresolved))) (depth_ok (depth_in k)) rises
          (spans_in z.start s.rows.from (s.rows.to - s.rows.from) offsets targets && spans_in z.start s.rows.from (s.rows.to - s.rows.from) starts kids)
      unfolding section_faults faults
      rules-are known up =
          let x = spans_in z.start s.rows.from (s.rows.to - s.rows.from) offsets targets in
          let y = spans_in z.start s.rows.from (s.rows.to - s.rows.from) starts kids in
          section-rules kinds kinds-served S ready.tidy g same_once same_end
          ∙ rw (named, kinds-are, facts-are g there, ← known.depth_is, ← up, lists-are, children-are) (last-two _ _ _ _ x y)
