-- A cleaned archive is no longer than its room. Room for the groups before one is a figure that grows from group to group by no less than the
-- bytes of the group's file, so that all files together are no longer than room for all groups.
use mathlib.Core.Path.{◌≡◌, refl, ap, sym, ◌∙◌}
use mathlib.Core.Bool.{Bool, true, false}
use mathlib.Core.Logic.{inl, inr}
use mathlib.Core.List.{List, [], ◌∷◌, map}
use mathlib.Core.Option.{none}
use Prim.Native.Nat.{ℕ, zero, suc, ◌+◌, ◌-◌, ◌*◌, ◌≤◌, ◌<◌}
use native.Mathlib.Omega.{arith}
use native.Mathlib.Nat.{add-zero, zero-add, mul-le-mul_right, le_trans}
use lib.ListN.{length, take, drop, take-append-drop, length-append, length-map, length-take}
use lib.Seq.{take-add}
use borrow.Author.Tests.{eqb-true}
use Rattle.lists.specs.Lists.{flat, joined, part, sum, up_from}
use Rattle.lists.proofs.Tests.{tested}
use Rattle.lists.proofs.Cut.{length-blocks}
use Rattle.lists.proofs.Flat.{length-flat, length-joined, length-starts, joined-append}
use Rattle.lists.proofs.Sums.{sum-map}
use Rattle.columns.specs.Limits.{kinds, Served, end64, max_records, max_groups, max_numbers, max_subject}
use Rattle.columns.specs.EdgeSet.{set_of}
use Rattle.columns.specs.Reading.{Label}
use Rattle.columns.specs.Building.{Built, slot_rules, within}
use Rattle.cover.specs.Chains.{Link, ranges_of}
use Rattle.cover.specs.Cover.{differences, columns_of}
use Rattle.archive.specs.File.{CoverColumns, File}
use Rattle.archive.specs.Encode.{head_bytes, edges_bytes, row_bytes, unresolved_bytes, root_bytes, cover_bytes, counted_bytes, cover_record, references_record, file_bytes, encode}
use Rattle.archive.proofs.Lengths.{length-record, length-head, length-set, length-sets, length-counted, length-links, length-cover, wide_row, wide-unresolved, wide-root}
use Rattle.archive.proofs.References.{no_record}
use Rattle.cleaning.specs.Sheet.{Sheet, row_count}
use Rattle.cleaning.specs.Writing.{label_columns}
use Rattle.cleaning.specs.Sections.{Tidy, facts_of, place, between, section_start, section_rows, section_first, section_end, sheet_end, section_tags, section_lists}
use Rattle.cleaning.specs.Sections.{section_labels, section_roots, section_links, child_lists, section_children, cover_where, unerased_row, section_file_of, section_file}
use Rattle.cleaning.specs.Sections.{section_bytes, row_size, room_for, max_archive_size}
use Rattle.cleaning.proofs.OutputFigures.{ranges-few, length-deltas}
use Rattle.cleaning.proofs.Places.{place-within, place-rises}
use Rattle.cleaning.proofs.SheetRows.{section-end}
use Rattle.cleaning.proofs.SheetLabels.{labels-uncovered, labels-count}
use Rattle.cleaning.proofs.Within.{length-within}
use Rattle.cleaning.proofs.SectionSets.{lists-within, lists_length, children-length, children-counted, children-few, section-built}

-- the room in bytes, for a run's own number of kinds
pub archive-room : max_archive_size kinds ≡ 196448
archive-room = refl

-- ── figures that grow ────────────────────────────────────────────────────────────────────────

-- where each step is no less than a figure, all steps together are no less than the sum of the figures
pub steps-sum : (f h : ℕ → ℕ) → ((g : ℕ) → f g + h g ≤ f (suc g)) → (i n : ℕ) → f i + sum h (up_from i n) ≤ f (i + n)
unfolding sum up_from
steps-sum f h step i zero = omega (arith, ap f (add-zero i))
steps-sum f h step i (suc n) = omega (arith, step i, steps-sum f h step (suc i) n, ap f {x = suc i + n} {y = i + suc n} (omega arith))

module _ {A : Type 0} (f : A → ℕ) (xs : List A) where
  -- the elements of a range stand between two places
  between_step : (low high : ℕ) → low ≤ high → place low (map f xs) + length (between f low high xs) ≤ place high (map f xs)
  unfolding between part
  between_step low high l =
      let a = place low (map f xs) in
      let b = place high (map f xs) in
      omega (arith, place-rises low high (map f xs) l, length-take (b - a) (drop a xs))

  place-few : (n : ℕ) → place n (map f xs) ≤ length xs
  place-few n = omega (arith, place-within n (map f xs), length-map xs f)

-- how many entries the lists before the i-th have
abbrev entries_to : List (List ℕ) → ℕ → ℕ
entries_to ls i = length (joined (take i ls))

module _ (ls : List (List ℕ)) where
  entries-step : (i n : ℕ) → entries_to ls i + length (joined (part i n ls)) ≡ entries_to ls (i + n)
  unfolding part
  entries-step i n = sym (rw (take-add i n ls, joined-append (take i ls) (take n (drop i ls))) (length-append (joined (take i ls)) (joined (take n (drop i ls)))))

  entries-few : (i : ℕ) → entries_to ls i ≤ length (joined ls)
  entries-few i =
      omega (
        arith,
        ap (λ ks. length (joined ks)) (take-append-drop i ls),
        ap length (joined-append (take i ls) (drop i ls)),
        length-append (joined (take i ls)) (joined (drop i ls)),
      )

-- ── the bytes of a file ──────────────────────────────────────────────────────────────────────

length-file : (f : File) → length (file_bytes f)
    ≡ 81 + length f.subject
    + (8 * (length f.forward.offsets + length f.reverse.offsets + length f.inbound.offsets)
    + (8 * (length f.forward.deltas + length f.reverse.deltas + length f.inbound.deltas)
    + (9 * length f.rows + (13 * length f.unresolved + (16 * length f.roots + (length (cover_record f.cover) + length (references_record f.references)))))))
unfolding file_bytes head_bytes edges_bytes
length-file f =
    simp length-append
    (omega (
      arith,
      length-record 1 (head_bytes f),
      length-head f.first (length f.rows) f.group f.subject f.depth,
      length-record 2 (edges_bytes f),
      length-sets f.forward f.reverse f.inbound,
      length-set f.forward,
      length-set f.reverse,
      length-set f.inbound,
      length-record 3 (flat row_bytes f.rows),
      length-blocks row_bytes 9 wide_row f.rows,
      length-record 4 (counted_bytes unresolved_bytes f.unresolved),
      length-counted unresolved_bytes 13 wide-unresolved f.unresolved,
      length-record 5 (counted_bytes root_bytes f.roots),
      length-counted root_bytes 16 wide-root f.roots,
    ))

pub length-differences : (before : ℕ) (xs : List ℕ) → length (differences before xs) ≡ length xs
unfolding differences
length-differences before [] = refl
length-differences before (x ∷ xs) = ap suc (length-differences x xs)

cover-few : (covered : Bool) (ls : List Label) (links : List Link) → length (cover_record (cover_where covered ls links)) ≤ 14 + (20 * length ls + 16 * length links)
unfolding columns_of label_columns
cover-few false ls links = omega arith
cover-few true ls links =
    let c : CoverColumns = record { labels = label_columns ls; ranges = ranges_of ls; links = columns_of links } in
    omega (
      arith,
      length-record 6 (cover_bytes c),
      length-cover c,
      length-links (columns_of links),
      ranges-few ls,
      length-map ls (λ l. l.chain),
      length-map ls (λ l. l.seq),
      length-differences 0 (map (λ l. l.from_chain) links),
      length-map links (λ l. l.from_chain),
      length-map links (λ l. l.from_seq),
      length-map links (λ l. l.to_chain),
      length-map links (λ l. l.to_seq),
    )

-- the set of some lists has an offset for each and one more, and a delta for each entry
module _ (K : ℕ) (served : Served K) (first : ℕ) (lists : List (List ℕ)) where
  set-offsets : length (set_of K first lists).offsets ≡ suc (length lists)
  unfolding set_of
  set-offsets = length-starts 0 lists

  set-deltas : length (set_of K first lists).deltas ≡ length (joined lists)
  set-deltas = length-deltas K served first lists ∙ sym (length-joined lists)

-- what rows add, out of the slots that they have
rows-room : (K n : ℕ) → n * row_size K ≡ 24 * (K * n) + 17 * n
rows-room K n = omega arith

-- ── room for groups ──────────────────────────────────────────────────────────────────────────

-- room for the groups before group g
room_to : (K : ℕ) → Sheet → ℕ → ℕ
room_to K s g =
    let rows = section_start s g in
    room_for K g rows (place (section_first s g) (map (λ u. u.child) s.unresolved)) (place rows (map (λ r. r.row) s.roots)) rows
    (place g (map (λ l. l.group) s.links)) (entries_to s.lists (K * rows) + entries_to (child_lists K s) (K * rows))

module _ (K : ℕ) (served : Served K) (s : Sheet) (t : Tidy K s) where
  module _ (g : ℕ) where
    tags-few : length (map unerased_row (section_tags s g)) ≤ section_rows s g
    unfolding part
    tags-few = omega (arith, length-map (section_tags s g) unerased_row, length-take (section_rows s g) (drop (section_start s g) s.tags))

    labels-few : length (section_labels s g) ≤ section_rows s g
    labels-few = elim (tested (facts_of s g).covered) [
      | inl c ↦ omega (arith, labels-count K served s t g c)
      | inr c ↦ rw (labels-uncovered K served s t g c) (omega arith)
    ]

    roots-step : place (section_start s g) (map (λ q. q.row) s.roots) + length (section_roots s g) ≤ place (section_start s (suc g)) (map (λ q. q.row) s.roots)
    roots-step = rw length-map (between_step (λ q. q.row) s.roots (section_start s g) (section_start s (suc g)) (omega (arith, section-end K served s t g)))

    links-step : place g (map (λ l. l.group) s.links) + length (section_links s g) ≤ place (suc g) (map (λ l. l.group) s.links)
    links-step = rw length-map (between_step (λ l. l.group) s.links g (suc g) (omega arith))

    -- the entries of the lists of a group's rows
    entries-section : (ls : List (List ℕ))
        → entries_to ls (K * section_start s g) + length (joined (part (K * section_start s g) (K * section_rows s g) ls)) ≡ entries_to ls (K * section_start s (suc g))
    entries-section ls =
        entries-step ls (K * section_start s g) (K * section_rows s g)
        ∙ ap (entries_to ls) {x = K * section_start s g + K * section_rows s g} {y = K * section_start s (suc g)} (omega (arith, ap (λ x. K * x) (section-end K served s t g)))

  module _ (e : slot_rules K s.start 0 s.lists ≡ none) (r : s.start + row_count s < end64) (subject : length s.subject ≤ max_subject) where
    -- a group's file is no longer than what its group adds
    file-step : (g : ℕ) → room_to K s g + length (file_bytes (section_file K s g)) ≤ room_to K s (suc g)
    unfolding room_to section_file
    file-step g =
        let first = section_first s g in
        let forward = within 0 (sheet_end s) (section_lists K s g) in
        let reverse = within 0 (section_end s g) (section_children K s g) in
        let inbound = within (section_end s g) (sheet_end s) (section_children K s g) in
        let built : Built = record { forward = set_of K first forward; reverse = set_of K first reverse; inbound = set_of K first inbound } in
        rw (section-built K served s t g e r)
        (omega (
          arith,
          length-file (section_file_of s g built),
          ap length (no_record (section_tags s g)),
          set-offsets K served first forward,
          set-offsets K served first reverse,
          set-offsets K served first inbound,
          set-deltas K served first forward,
          set-deltas K served first reverse,
          set-deltas K served first inbound,
          length-within K served 0 (sheet_end s) (section_lists K s g),
          length-within K served 0 (section_end s g) (section_children K s g),
          length-within K served (section_end s g) (sheet_end s) (section_children K s g),
          section-end K served s t g,
          ap (λ x. x * row_size K) (section-end K served s t g),
          rows-room K (section_rows s g),
          lists_length K served s t g,
          children-length K served s t g,
          ap (λ ls. length (joined ls)) (lists-within K served s t g e r),
          children-counted K served s t g e r,
          entries-section g s.lists,
          entries-section g (child_lists K s),
          tags-few g,
          labels-few g,
          cover-few (facts_of s g).covered (section_labels s g) (section_links s g),
          between_step (λ u. u.child) s.unresolved (section_first s g) (section_end s g) (omega (arith, section-end K served s t g)),
          roots-step g,
          links-step g,
        ))

    -- the files of all groups are no longer than room for all
    files-few : (n : ℕ) → length (encode (map (section_file K s) (up_from 0 n))) ≤ room_to K s n
    unfolding encode
    files-few n =
        let bytes : ℕ → ℕ = λ g. length (file_bytes (section_file K s g)) in
        omega (
          arith,
          length-flat file_bytes (map (section_file K s) (up_from 0 n)),
          sum-map (λ f. length (file_bytes f)) (section_file K s) (up_from 0 n),
          steps-sum (room_to K s) bytes file-step 0 n,
          ap (room_to K s) (zero-add n),
        )

    before-few : (n : ℕ) → section_start s n ≤ row_count s
    unfolding section_start
    before-few n = omega (arith, place-within n s.row_groups, eqb-true (length s.row_groups) (row_count s) t.each_group)

    -- within the limits no archive is longer than its room
    pub archive-few : length s.groups ≤ max_groups → row_count s ≤ max_records → length (joined s.lists) ≤ max_numbers → length s.unresolved ≤ max_records
        → length s.roots ≤ max_records → length s.links ≤ max_records → length (section_bytes K s) ≤ max_archive_size K
    unfolding section_bytes room_to section_start
    archive-few groups rows entries unresolved roots links =
        let n = length s.groups in
        let before = section_start s n in
        omega (
          arith,
          files-few n,
          place-within n s.row_groups,
          mul-le-mul_right (row_size K) (le_trans (before-few n) rows),
          eqb-true (length s.row_groups) (row_count s) t.each_group,
          place-few (λ u. u.child) s.unresolved (section_first s n),
          place-few (λ q. q.row) s.roots before,
          place-few (λ l. l.group) s.links n,
          entries-few s.lists (K * before),
          entries-few (child_lists K s) (K * before),
          children-few K served s t,
        )
