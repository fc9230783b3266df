-- The file of a group, by what is known of the group: its two halves, and all that writing them needs.
use mathlib.Core.Path.{◌≡◌, sym, ap, ◌∙◌}
use mathlib.Core.Bool.{true}
use mathlib.Core.Logic.{inl, inr}
use mathlib.Core.List.{List, ◌++◌, map, append_assoc, append-nil}
use Prim.Native.Nat.{ℕ, zero, suc, ◌+◌, ◌-◌, ◌*◌, ◌^◌, ◌≤◌, ◌<◌}
use native.Mathlib.Nat.{mul-le-mul_right}
use native.Mathlib.Numerals.{add-one}
use native.Mathlib.Omega.{arith}
use lib.ListN.{length, take, drop, take-append-drop, length-map}
use Rattle.lists.specs.Lists.{flat, part, Each}
use Rattle.lists.proofs.Tests.{tested}
use Rattle.lists.proofs.Each.{each-imp, each-flat, each-mem}
use Rattle.lists.proofs.Filters.{each_left, each_right}
use Rattle.columns.specs.Limits.{kinds, max_records}
use Rattle.columns.specs.Reading.{Label}
use Rattle.cover.specs.Chains.{ranges_of}
use Rattle.cover.proofs.Extremes.{Ends, ranges-ends}
use Rattle.archive_bytes.specs.Bytes.{several, Wide}
use Rattle.archive.specs.Encode.{file_bytes, head_bytes, edges_bytes, cover_record}
use Rattle.archive.proofs.Back.{length-several}
use Rattle.archive.proofs.References.{no_record}
use Rattle.cleaning.specs.Sheet.{Sheet}
use Rattle.cleaning.specs.Sections.{section_file, section_labels, cover_where, unerased_row}
use Rattle.run_state.specs.declared.Groups.{Groups}
use Rattle.run_state.specs.View.{facts_at, has_cover}
use Rattle.run_section.specs.declared.Counts.{Counts}
use Rattle.run_section.specs.declared.Section.{Section}
use Rattle.run_section.specs.declared.Span.{Span}
use Rattle.run_section.specs.declared.covers.Covers.{Covers}
use Rattle.run_section.specs.declared.facts.Facts.{Facts}
use Rattle.run_section.specs.Tables.{field, sheet_of}
use Rattle.run_section.specs.Sections.{SortedTable, SpanAt, SectionAt}
use Rattle.run_section.specs.Rules.{Lists}
use Rattle.run_section.specs.Ready.{Ready, Children}
use Rattle.run_section.specs.Files.{many, tags_at, links_at, sets_at, file_at}
use Rattle.run_section.specs.Covers.{labels_from, labels_at, ranges_at, words, CoversAt}
use Rattle.run_section.specs.Facts.{FactsAt}
use Rattle.run_section.proofs.Records.{several-from}
use Rattle.run_section.proofs.Filed.{file-is}
use Rattle.run_section.proofs.Covering.{ends_rise, ends_few, ends_count, ranges_there}
use Rattle.run_section.proofs.CoverSections.{labels-section, ranges-section}
use Rattle.run_records.specs.Stored.{row_label, range_in}
use Rattle.run_records.specs.Narrow.{HalfColumn}
use Rattle.run_records.specs.Files.{Wrote, front_at, middle_at, last_at, back_at, SpanIn, FrontReady, MiddleReady, LastReady, Stores}
use Rattle.run_records.proofs.Ranges.{ranges-are, range-table}
use Rattle.run_records.proofs.Halves.{both-wrote, first-room, second-room}
use Rattle.run_records.proofs.Rest.{Left, file_room, left_next}

-- ── the records of a span ────────────────────────────────────────────────────────────────────

span-in : {w n low high : ℕ} {table : List ℕ} {s : Span} → SpanAt w n table low high s → SortedTable w n table → n ≤ max_records → SpanIn w s table
span-in {w} h t few = record {
  rises = h.rises;
  few = omega (arith, h.within);
  there = omega (arith, t.there, mul-le-mul_right w h.within);
}

each_part : (P : ℕ → Type 0) (i m : ℕ) (xs : List ℕ) → Each P xs → Each P (part i m xs)
unfolding part
each_part P i m xs h =
    let rest : Each P (drop i xs) = each_right P (take i xs) (drop i xs) (rw (take-append-drop i xs) h) in
    each_left P (take m (drop i xs)) (drop m (drop i xs)) (rw (take-append-drop m (drop i xs)) rest)

module _ {w n low high : ℕ} {table : List ℕ} {s : Span} (h : SpanAt w n table low high s) where
  together : s.from + many s ≡ s.to
  together = omega (arith, h.rises)

  -- numbers that are narrow over all records are so over these
  narrow-span : (b j : ℕ) → Wide b (several w (field j) n table) → Wide b (several w (field j) (many s) (drop (s.from * w) table))
  narrow-span b j all =
      rw (several-from w (field j) n s.from (many s) table (omega (arith, together, h.within)))
      at (each_part (λ x. x < 256 ^ b) s.from (many s) (several w (field j) n table) all)

  half-span : (j : ℕ) → j < w → SortedTable w n table → Wide 4 (several w (field j) n table) → HalfColumn w j (many s) (s.from * w) table
  half-span j inside t all = record {
    within = inside;
    there = wide_enough (many s) together;
    narrow = narrow-span 4 j all;
  }
    where
      wide_enough : (m : ℕ) → s.from + m ≡ s.to → s.from * w + m * w ≤ length table
      wide_enough m e =
          let d : (s.from + m) * w ≤ length table = rw e (omega (arith, t.there, mul-le-mul_right w h.within)) in
          omega arith

-- ── ranges ───────────────────────────────────────────────────────────────────────────────────

abbrev Small : Label → Type 0
Small l = (l.chain < 2 ^ 32) × (l.seq < 2 ^ 32)

small-labels : (n : ℕ) (t : List ℕ) → Wide 4 (several 4 (field 2) n t) → Wide 4 (several 4 (field 3) n t) → Each Small (several 4 row_label n t)
unfolding several
small-labels zero t c d = tt
small-labels (suc n) t c d = ((c.0, d.0), small-labels n (drop 4 t) c.1 d.1)

-- the numbers of ranges are those of labels
small-ranges : (ls : List Label) → Each Small ls → Wide 4 (flat words (ranges_of ls))
small-ranges ls h =
    each-flat (λ x. x < 256 ^ 4) words (ranges_of ls)
    (each-imp (Ends ls) (λ r. Wide 4 (words r)) (ranges_of ls)
    (λ r e. let a = each-mem Small ls _ h e.0 in let b = each-mem Small ls _ h e.1 in (a.0, (a.1, (b.1, tt)))) (ranges-ends ls))

-- ── one group ────────────────────────────────────────────────────────────────────────────────

module _ (z : Counts) (subject : List ℕ) (groups : Groups) (covers : Covers) (rows unresolved roots links ranges offsets targets starts kids : List ℕ)
    (ready : Ready z subject groups rows unresolved roots links offsets targets) (children : Children z offsets targets starts kids)
    (cover : CoversAt z groups rows ranges covers) (stores : Stores z rows unresolved links ranges) where
  abbrev S : Sheet
  S = sheet_of z subject groups rows unresolved roots links offsets targets

  lists : Lists z.rows offsets targets starts kids
  lists = record { parents = ready.form; children = children.form; few_parents = ready.few.parents; few_children = children.few }

  module _ (g : ℕ) (there : g < groups.count) (s : Section) (h : SectionAt z g rows unresolved roots links s) where
    front-ready : FrontReady z g s subject offsets targets starts kids
    front-ready = record {
      group = omega (arith, ready.few.groups_count);
      short = ready.few.short;
      few = ready.few.rows;
      end = ready.few.end;
      rises = h.rows_span.rises;
      within = h.rows_span.within;
      lists = lists;
    }

    rows_in : SpanIn 4 s.rows rows
    rows_in = span-in h.rows_span ready.sorted.by_group ready.few.rows

    middle-ready : MiddleReady s rows unresolved roots
    middle-ready = record {
      rows_in = rows_in;
      unresolved_in = span-in h.unresolved_at ready.sorted.by_child ready.few.unresolved;
      roots_in = span-in h.roots_at ready.sorted.by_row ready.few.roots;
      narrow = record {
        kinds = narrow-span h.unresolved_at 1 1 stores.kinds;
        handles = narrow-span h.unresolved_at 4 2 stores.handles;
      };
    }

    labels-cut : labels_at z rows g ≡ several 4 row_label (many s.rows) (drop (s.rows.from * 4) rows)
    unfolding labels_at labels_from
    labels-cut = rw (h.rows_span.from_is, h.rows_span.to_is, add-one)

    small-here : Wide 4 (flat words (ranges_at z groups rows g))
    unfolding ranges_at
    small-here = elim (tested (has_cover groups g)) [
      | inl e ↦ rw (e, labels-cut)
          (small-ranges (several 4 row_label (many s.rows) (drop (s.rows.from * 4) rows))
          (small-labels (many s.rows) (drop (s.rows.from * 4) rows) (narrow-span h.rows_span 4 2 stores.chains) (narrow-span h.rows_span 4 3 stores.seqs)))
      | inr e ↦ rw e tt
    ]

    module _ (f : Facts) (k : FactsAt groups covers g f) where
      stored_here : flat words (ranges_at z groups rows g) ≡ part (3 * f.from) (3 * (f.to - f.from)) ranges
      stored_here = rw (k.from_is, k.to_is) (sym (ranges_there z groups rows ranges covers cover g there))

      counted-here : length (ranges_at z groups rows g) ≡ f.to - f.from
      counted-here = rw (k.from_is, k.to_is) (sym (ends_count z groups rows ranges covers cover g there))

      last-ready : LastReady s f.from f.to rows ranges links
      last-ready =
          let few : f.to ≤ 1024 = omega (arith, k.to_is, ends_few z groups rows ranges covers cover g there) in
          let up : f.from ≤ f.to = omega (arith, k.from_is, k.to_is, ends_rise z groups rows ranges covers cover g there) in
          record {
            rows_in = rows_in;
            links_in = span-in h.links_span ready.sorted.by_link ready.few.links;
            rises = up;
            few = few;
            labels = record {
              chains = half-span h.rows_span 2 (omega arith) ready.sorted.by_group stores.chains;
              seqs = half-span h.rows_span 3 (omega arith) ready.sorted.by_group stores.seqs;
            };
            ranges_in = range-table (ranges_at z groups rows g) f.from (f.to - f.from) ranges stored_here counted-here
                (omega (arith, stores.ranges_there)) small-here;
            linked = record {
              from_chains = half-span h.links_span 1 (omega arith) ready.sorted.by_link stores.from_chains;
              from_seqs = half-span h.links_span 2 (omega arith) ready.sorted.by_link stores.from_seqs;
              to_chains = half-span h.links_span 3 (omega arith) ready.sorted.by_link stores.to_chains;
              to_seqs = half-span h.links_span 4 (omega arith) ready.sorted.by_link stores.to_seqs;
            };
          }

      -- ── its file ───────────────────────────────────────────────────────────────────────────

      ranges_here : ranges_of (section_labels S g) ≡ several 3 range_in (f.to - f.from) (drop (f.from * 3) ranges)
      ranges_here =
          ranges-section z subject groups rows unresolved roots links offsets targets ready.sorted.by_group g
          ∙ sym (ranges-are (ranges_at z groups rows g) f.from (f.to - f.from) ranges stored_here counted-here)

      labels_here : has_cover groups g ≡ true → section_labels S g ≡ several 4 row_label (many s.rows) (drop (s.rows.from * 4) rows)
      labels_here e = labels-section z subject groups rows unresolved roots links offsets targets ready.sorted.by_group g ∙ rw e labels-cut

      sixth : cover_record (cover_where (facts_at groups g).covered (section_labels S g) (links_at s links)) ≡ last_at f.known.covered s f.from f.to rows ranges links
      unfolding last_at facts_at
      sixth = elim (tested (has_cover groups g)) [
        | inl e ↦ rw (k.known_is.cover_is, e, ranges_here, labels_here e)
        | inr e ↦ rw (k.known_is.cover_is, e)
      ]

      abbrev front : List ℕ
      front = front_at z g s f.known subject (sets_at z s offsets targets starts kids)

      abbrev back : List ℕ
      back = back_at s f rows unresolved roots links ranges

      file_halves : file_bytes (section_file kinds S g) ≡ front ++ back
      unfolding file_bytes file_at head_bytes edges_bytes front_at back_at middle_at
      file_halves =
          let n : length (map unerased_row (tags_at s rows)) ≡ many s.rows =
          length-map (tags_at s rows) unerased_row ∙ length-several 4 (field 1) (many s.rows) (drop (s.rows.from * 4) rows) in
          ap file_bytes (file-is z subject groups rows unresolved roots links offsets targets g s h ready there children)
          ∙ rw (n, ← k.known_is.depth_is, sixth, no_record (tags_at s rows), append-nil) (simp append_assoc)

      -- ── one turn ───────────────────────────────────────────────────────────────────────────

      module _ {out₀ out : List ℕ} {at : ℕ} (l : Left S groups.count out₀ out at g) where
        halves_room : at + length (front ++ back) ≤ length out
        halves_room = rw file_halves at (file_room S l there)

        pub front_needs : FrontReady z g s subject offsets targets starts kids × (at + length front ≤ length out)
        front_needs = (front-ready, first-room front back at (length out) halves_room)

        module _ {mid : List ℕ} {p : ℕ} (a : Wrote front out mid at p) where
          pub back_needs : (MiddleReady s rows unresolved roots × LastReady s f.from f.to rows ranges links)
              × (p + length back ≤ length mid)
          back_needs = ((middle-ready, last-ready), second-room front back out at halves_room a)

          pub group_put : {is : List ℕ} {end : ℕ} → Wrote back mid is p end → Left S groups.count out₀ is end (g + 1)
          group_put b = left_next S l there (rw (← file_halves) at (both-wrote a b))
