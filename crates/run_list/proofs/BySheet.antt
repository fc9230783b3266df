-- The lines of all groups' files by the tables are those by the sheet that the tables stand for.
use mathlib.Core.Path.{◌≡◌, refl, sym, ap, ap₂, ◌∙◌}
use mathlib.Core.Bool.{true}
use mathlib.Core.List.{List}
use mathlib.Core.Option.{none}
use Prim.Native.Nat.{ℕ, suc, ◌+◌, ◌-◌, ◌<◌}
use native.Mathlib.Numerals.{add-one}
use native.Mathlib.Omega.{arith}
use native.Mathlib.Nat.{zero-add}
use lib.ListN.{length, get_or, length-map}
use Rattle.lists.specs.Lists.{flat, up_from}
use Rattle.lists.proofs.Each.{each-get_or}
use Rattle.lists.proofs.Flat.{flat-ext, flat_map, get_or-up_from, length-up_from}
use Rattle.lists.proofs.Sums.{sum-map, sum-ext}
use Rattle.lists.proofs.Filters.{each_below}
use Rattle.columns.specs.Limits.{kinds, end64}
use Rattle.columns.proofs.Served.{kinds-served}
use Rattle.columns.specs.EdgeSet.{cut}
use Rattle.columns.specs.Building.{Built, slot_rules, rows_within, deltas_fit, build_rules, built_of}
use Rattle.columns.specs.declared.refusal.Refusal.TheVariants.{DeltaRange}
use Rattle.columns.proofs.FirstBroken.{each_none, each-none-in, passed}
use Rattle.columns.proofs.ReadBack.{set-count}
use Rattle.cleaning.specs.Lines.{file_lines}
use Rattle.cleaning.specs.Listed.{file_need, files_need}
use Rattle.cleaning.specs.Sheet.{Sheet, row_count}
use Rattle.cleaning.specs.Sections.{unerased_row, section_start, section_rows, section_first, section_lists, section_children, child_lists, section_tags, section_graph}
use Rattle.cleaning.specs.Sections.{section_faults, section_file_of, section_file, section_rules}
use Rattle.cleaning.proofs.Parts.{length_part}
use Rattle.cleaning.proofs.SheetRows.{section-end, section-within}
use Rattle.cleaning.proofs.SectionSets.{section-built}
use Rattle.cleaning.proofs.SectionRules.{section-rules}
use Rattle.run_state.specs.declared.Groups.{Groups}
use Rattle.run_section.specs.declared.Counts.{Counts}
use Rattle.run_section.specs.Tables.{sheet_of}
use Rattle.run_section.specs.Rules.{spans_in}
use Rattle.run_section.specs.Ready.{Ready, Children}
use Rattle.run_section.specs.Covers.{start_at}
use Rattle.run_section.specs.Files.{sets_over}
use Rattle.run_section.proofs.Sectioned.{rows-count, groups_count}
use Rattle.run_section.proofs.Grouped.{both-lists}
use Rattle.run_text.specs.files.Files.{sets_text, file_text}
use Rattle.run_list.specs.Groups.{section_files, lines_over, need_over, lines_at, need_at, lines_of, need_of, Tabled, Spanned}

section-lines : (s : Sheet) (g : ℕ) (b : Built) → file_lines (section_file_of s g b) ≡ file_text g (section_first s g) (length (section_file_of s g b).rows) b
unfolding file_text sets_text file_lines
section-lines s g b = refl

module _ (z : Counts) (subject : List ℕ) (groups : Groups) (rows unresolved roots links offsets targets : List ℕ)
    (ready : Ready z subject groups rows unresolved roots links offsets targets) {starts kids : List ℕ} (children : Children z offsets targets starts kids) where
  abbrev S : Sheet
  S = sheet_of z subject groups rows unresolved roots links offsets targets

  once : slot_rules kinds S.start 0 S.lists ≡ none
  unfolding sheet_of
  once = ready.once

  end : S.start + row_count S < end64
  unfolding sheet_of
  end = omega (arith, rows-count z subject groups rows unresolved roots links offsets targets, ready.few.end)

  all-rows : row_count S ≡ z.rows
  all-rows = rows-count z subject groups rows unresolved roots links offsets targets

  all-children : child_lists kinds S ≡ cut starts kids
  unfolding child_lists sheet_of
  all-children = rw all-rows (sym children.are)

  -- ── one group ──────────────────────────────────────────────────────────────────────────────

  module _ (g : ℕ) where
    starts-at : section_start S g ≡ start_at z rows g
    unfolding section_start sheet_of
    starts-at = refl

    ends_at : section_start S (suc g) ≡ start_at z rows (g + 1)
    unfolding section_start sheet_of
    ends_at = rw add-one

    rows_span : section_rows S g ≡ start_at z rows (g + 1) - start_at z rows g
    unfolding section_rows
    rows_span = ap₂ (λ b a. b - a) ends_at starts-at

    start_is : S.start ≡ z.start
    unfolding sheet_of
    start_is = refl

    lists-are : S.lists ≡ cut offsets targets
    unfolding sheet_of
    lists-are = refl

    sets-are : built_of kinds (section_graph kinds S g) ≡ sets_over z (start_at z rows g) (start_at z rows (g + 1)) offsets targets starts kids
    unfolding sets_over
    sets-are = section-built kinds kinds-served S ready.tidy g once end ∙ rw (starts-at, ends_at, rows_span, all-rows, all-children, start_is, lists-are)

    tags-count : length (section_file kinds S g).rows ≡ start_at z rows (g + 1) - start_at z rows g
    unfolding section_file
    tags-count =
        length-map (section_tags S g) unerased_row
        ∙ length_part (section_start S g) (section_rows S g) S.tags (omega (arith, section-end kinds kinds-served S ready.tidy g, section-within kinds kinds-served S ready.tidy g))
        ∙ rows_span

    pub lines-shown : file_lines (section_file kinds S g) ≡ lines_at z rows offsets targets starts kids g
    unfolding section_file lines_at lines_over
    lines-shown = section-lines S g (built_of kinds (section_graph kinds S g)) ∙ rw (tags-count, sets-are, starts-at, start_is)

    need-shown : file_need (section_file kinds S g) ≡ need_at z rows offsets targets starts kids g
    unfolding file_need section_file need_at need_over sets_over
    need-shown =
        let a = start_at z rows g in
        let b = start_at z rows (g + 1) in
        let first = z.start + a in
        omega (
          arith,
          tags-count,
          ap (λ s. length s.forward.deltas) sets-are,
          ap (λ s. length s.reverse.deltas) sets-are,
          ap (λ s. length s.inbound.deltas) sets-are,
          set-count kinds first (rows_within kinds 0 (z.start + z.rows) a (b - a) offsets targets),
          set-count kinds first (rows_within kinds 0 (z.start + b) a (b - a) starts kids),
          set-count kinds first (rows_within kinds (z.start + b) (z.start + z.rows) a (b - a) starts kids),
        )

    lists-spans : deltas_fit kinds (section_first S g) (section_lists kinds S g) ≡ spans_in z.start (start_at z rows g) (start_at z rows (g + 1) - start_at z rows g) offsets targets
    unfolding sheet_of spans_in
    lists-spans = rw (starts-at, rows_span)

    children-spans : deltas_fit kinds (section_first S g) (section_children kinds S g) ≡ spans_in z.start (start_at z rows g) (start_at z rows (g + 1) - start_at z rows g) starts kids
    unfolding sheet_of spans_in
    children-spans = rw (all-children, starts-at, rows_span)

    -- the rules of a group say that its numbers are in reach
    module _ (e : build_rules kinds (section_graph kinds S g) ≡ none) where
      lists-reach : deltas_fit kinds (section_first S g) (section_lists kinds S g) ≡ true
      unfolding section_faults
      lists-reach = passed DeltaRange (deltas_fit kinds (section_first S g) (section_lists kinds S g)) (each_none _ (sym (section-rules kinds kinds-served S ready.tidy g once end) ∙ e)).1.1.1.1.0

      children-reach : deltas_fit kinds (section_first S g) (section_children kinds S g) ≡ true
      unfolding section_faults
      children-reach = passed DeltaRange (deltas_fit kinds (section_first S g) (section_children kinds S g))
          (each_none _ (sym (section-rules kinds kinds-served S ready.tidy g once end) ∙ e)).1.1.1.1.1.0

      parents-spanned : spans_in z.start (start_at z rows g) (start_at z rows (g + 1) - start_at z rows g) offsets targets ≡ true
      parents-spanned = sym lists-spans ∙ lists-reach

      children-spanned : spans_in z.start (start_at z rows g) (start_at z rows (g + 1) - start_at z rows g) starts kids ≡ true
      children-spanned = sym children-spans ∙ children-reach

  -- ── all groups ─────────────────────────────────────────────────────────────────────────────

  count_is : length S.groups ≡ groups.count
  count_is = groups_count z subject groups rows unresolved roots links offsets targets

  pub files-lines : flat file_lines (section_files S) ≡ lines_of z groups.count rows offsets targets starts kids
  unfolding section_files lines_of
  files-lines =
      flat_map file_lines (section_file kinds S) (up_from 0 (length S.groups))
      ∙ rw count_is
      (flat-ext (λ g. file_lines (section_file kinds S g)) (lines_at z rows offsets targets starts kids) (up_from 0 groups.count) (each_below _ groups.count (λ g h. lines-shown g)))

  pub files-need : files_need (section_files S) ≡ need_of z groups.count rows offsets targets starts kids
  unfolding files_need section_files need_of
  files-need =
      sum-map file_need (section_file kinds S) (up_from 0 (length S.groups))
      ∙ rw count_is
      (sum-ext (λ g. file_need (section_file kinds S g)) (need_at z rows offsets targets starts kids) (up_from 0 groups.count) (each_below _ groups.count (λ g h. need-shown g)))

  pub tabled : Tabled z groups.count rows offsets targets starts kids
  tabled = record {
    groups = ready.few.groups_count;
    few = ready.few.rows;
    end = ready.few.end;
    sorted = ready.sorted.by_group;
    lists = both-lists z subject groups rows unresolved roots links offsets targets ready children;
  }

  module _ (none-broken : section_rules kinds S ≡ none) where
    kept : (g : ℕ) → g < groups.count → build_rules kinds (section_graph kinds S g) ≡ none
    unfolding section_rules
    kept g h =
        let all = each-none-in (λ g. build_rules kinds (section_graph kinds S g)) (up_from 0 (length S.groups)) none-broken in
        let h' : g < length S.groups = omega (arith, count_is) in
        let e : get_or (up_from 0 (length S.groups)) g 0 ≡ g = get_or-up_from 0 (length S.groups) g 0 h' ∙ zero-add g in
        ap (λ k. build_rules kinds (section_graph kinds S k)) (sym e)
        ∙ each-get_or (λ k. build_rules kinds (section_graph kinds S k) ≡ none) (up_from 0 (length S.groups)) g 0 all (omega (arith, length-up_from 0 (length S.groups)))

    pub spanned : Spanned z groups.count rows offsets targets starts kids
    spanned = record { parents = λ g h. parents-spanned g (kept g h); children = λ g h. children-spanned g (kept g h) }
