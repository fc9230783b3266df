-- Document 01, "Cleaning" and "Archive records": an output file made of a sheet's flat lists. In a tidy sheet the rows, records and links of a
-- group stand together, so that each column of its file is a part of the sheet's column.
use Rattle.std.specs.Prelude.{◌≡◌, Bool, true, false, cond, ◌&&◌, not, List, [], ◌∷◌, ◌++◌, map, ℕ, suc, ◌+◌, ◌-◌, ◌*◌, ltb, eqb, length, get_or}
use Rattle.std.specs.Bool.{beq}
use Rattle.std.proofs.Math.Option.{Option, none, some}
use Rattle.lists.specs.Lists.{flat, joined, starts, part, up_from, all, filter}
use Rattle.lists.specs.Order.{rising, not_falling}
use Rattle.columns.specs.Limits.{edge_sets, max_records, max_groups, max_numbers, max_subject, reference_kinds}
use Rattle.columns.specs.Refusal.{refuse, first_of, first_in}
use Rattle.columns.specs.Reading.{Label, Labels}
use Rattle.columns.specs.Building.{Graph, Built, subject_ok, depth_ok, seqs_rise, reverse_lists, deltas_fit, build_rules, built_of, in_file}
use Rattle.columns.specs.declared.refusal.Refusal.{Refusal}
use Rattle.columns.specs.declared.refusal.Refusal.TheVariants.{SubjectLength, UnresolvedKind, DepthOrder, SeqNotRising, DeltaRange}
use Rattle.cover.specs.Chains.{Link, ranges_of}
use Rattle.cover.specs.Cover.{columns_of}
use Rattle.archive.specs.File.{Row, Unresolved, Root, CoverColumns, no_references, File}
use Rattle.archive.specs.Encode.{encode}
use Rattle.cleaning.specs.Source.{is_there}
use Rattle.cleaning.specs.Writing.{Edge, label_list, label_columns, edges_into, inbound_columns, unresolved_columns}
use Rattle.cleaning.specs.Sheet.{Facts, Sheet, row_count, parents_at}
use Rattle.cleaning.specs.Held.{no_facts}

-- ── tidy sheets ──────────────────────────────────────────────────────────────────────────────

-- what is known of a group
abbrev pub facts_of : Sheet → ℕ → Facts
facts_of s g = get_or s.groups g no_facts

-- a label for every row whose group has a cover, and for no other
unfoldable pub labels_fit : List Facts → List ℕ → List (Option Label) → Bool
labels_fit fs [] [] = true
labels_fit fs [] (l ∷ ls) = false
labels_fit fs (g ∷ gs) [] = false
labels_fit fs (g ∷ gs) (l ∷ ls) = beq (is_there l) (get_or fs g no_facts).covered && labels_fit fs gs ls

-- columns of one length; groups, roots, children and links in order, none outside; labels where covers are
pub record Tidy (K : ℕ) (s : Sheet) : Type 0 where
  pub each_group : eqb (length s.row_groups) (row_count s) ≡ true
  pub each_label : eqb (length s.labels) (row_count s) ≡ true
  pub each_list : eqb (length s.lists) (K * row_count s) ≡ true
  pub group_order : not_falling s.row_groups ≡ true
  pub groups_known : all (λ g. ltb g (length s.groups)) s.row_groups ≡ true
  pub root_order : rising (map (λ r. r.row) s.roots) ≡ true
  pub roots_within : all (λ r. ltb r.row (row_count s)) s.roots ≡ true
  pub child_order : not_falling (map (λ u. u.child) s.unresolved) ≡ true
  pub children_within : all (λ u. in_file s.start (s.start + row_count s) u.child) s.unresolved ≡ true
  pub link_order : not_falling (map (λ l. l.group) s.links) ≡ true
  pub links_known : all (λ l. ltb l.group (length s.groups)) s.links ≡ true
  pub labelled : labels_fit s.groups s.row_groups s.labels ≡ true

-- whether a column that does not fall has every number from `seen` up to n
unfoldable pub reaches : ℕ → ℕ → List ℕ → Bool
reaches n seen [] = eqb seen n
reaches n seen (x ∷ xs) = cond (eqb x seen) (reaches n (suc seen) xs) (reaches n seen xs)

-- every group has a row
abbrev pub Filled : Sheet → Type 0
Filled s = reaches (length s.groups) 0 s.row_groups ≡ true

-- ── sections ─────────────────────────────────────────────────────────────────────────────────

-- how many numbers of a column are below n: where n stands, or would stand, in a column that does not fall
unfoldable pub place : ℕ → List ℕ → ℕ
place n xs = length (filter (λ x. ltb x n) xs)

-- the elements whose figures, which do not fall, are from `low` up to `high`
unfoldable pub between : {A : Type 0} → (A → ℕ) → ℕ → ℕ → List A → List A
between f low high xs = part (place low (map f xs)) (place high (map f xs) - place low (map f xs)) xs

-- the rows of the groups before g
unfoldable pub section_start : Sheet → ℕ → ℕ
section_start s g = place g s.row_groups

-- how many rows group g has
unfoldable pub section_rows : Sheet → ℕ → ℕ
section_rows s g = section_start s (suc g) - section_start s g

abbrev pub section_first : Sheet → ℕ → ℕ
section_first s g = s.start + section_start s g

abbrev pub section_end : Sheet → ℕ → ℕ
section_end s g = s.start + section_start s (suc g)

-- one past the last number of all rows
abbrev pub sheet_end : Sheet → ℕ
sheet_end s = s.start + row_count s

abbrev pub section_tags : Sheet → ℕ → List ℕ
section_tags s g = part (section_start s g) (section_rows s g) s.tags

-- the parents of the rows, slot by slot
abbrev pub section_lists : (K : ℕ) → Sheet → ℕ → List (List ℕ)
section_lists K s g = part (K * section_start s g) (K * section_rows s g) s.lists

abbrev pub section_labels : Sheet → ℕ → List Label
section_labels s g = flat label_list (part (section_start s g) (section_rows s g) s.labels)

abbrev pub section_unresolved : Sheet → ℕ → List Unresolved
section_unresolved s g = between (λ u. u.child) (section_first s g) (section_end s g) s.unresolved

-- the roots of the rows, which count from 0 in their file
abbrev pub section_roots : Sheet → ℕ → List Root
section_roots s g =
    map (λ r. record { row = r.row - section_start s g; handle = r.handle }) (between (λ r. r.row) (section_start s g) (section_start s (suc g)) s.roots)

abbrev pub section_links : Sheet → ℕ → List Link
section_links s g = map (λ l. l.link) (between (λ l. l.group) g (suc g) s.links)

-- the edges of a row into the numbers from `first` up to `end`
unfoldable pub row_edges : (K : ℕ) → Sheet → ℕ → ℕ → ℕ → List Edge
row_edges K s first end i = edges_into first end (s.start + i) 0 (parents_at K s i)

-- the rows of other groups, in order
unfoldable pub other_rows : Sheet → ℕ → List ℕ
other_rows s g = up_from 0 (section_start s g) ++ up_from (section_start s (suc g)) (row_count s - section_start s (suc g))

abbrev pub section_edges : (K : ℕ) → Sheet → ℕ → List Edge
section_edges K s g = flat (row_edges K s (section_first s g) (section_end s g)) (other_rows s g)

-- ── children ─────────────────────────────────────────────────────────────────────────────────

-- the children of every row, slot by slot, out of all groups
unfoldable pub child_lists : (K : ℕ) → Sheet → List (List ℕ)
child_lists K s = reverse_lists K s.start (row_count s) s.lists

-- those of group g's rows
abbrev pub section_children : (K : ℕ) → Sheet → ℕ → List (List ℕ)
section_children K s g = part (K * section_start s g) (K * section_rows s g) (child_lists K s)

-- ── files ────────────────────────────────────────────────────────────────────────────────────

-- labels where the group has a cover
abbrev pub labels_where : Bool → List Label → Option Labels
labels_where true ls = some (label_columns ls)
labels_where false ls = none

abbrev pub cover_where : Bool → List Label → List Link → Option CoverColumns
cover_where true ls links = some (record { labels = label_columns ls; ranges = ranges_of ls; links = columns_of links })
cover_where false ls links = none

-- what building is given of a group
unfoldable pub section_graph : (K : ℕ) → Sheet → ℕ → Graph
section_graph K s g = record {
  subject = s.subject;
  first = section_first s g;
  rows = section_rows s g;
  offsets = starts 0 (section_lists K s g);
  targets = joined (section_lists K s g);
  unresolved = unresolved_columns (section_unresolved s g);
  depth = (facts_of s g).depth;
  labels = labels_where (facts_of s g).covered (section_labels s g);
  inbound = inbound_columns (section_edges K s g);
  granule_first = 0;
  granule_rows = section_rows s g;
}

-- a row of an output file, which is not erased
abbrev pub unerased_row : ℕ → Row
unerased_row tag = record { erased = false; tag = tag }

abbrev pub section_file_of : Sheet → ℕ → Built → File
section_file_of s g b = record {
  first = section_first s g;
  group = g;
  subject = s.subject;
  depth = (facts_of s g).depth;
  forward = b.forward;
  reverse = b.reverse;
  inbound = b.inbound;
  rows = map unerased_row (section_tags s g);
  unresolved = section_unresolved s g;
  roots = section_roots s g;
  cover = cover_where (facts_of s g).covered (section_labels s g) (section_links s g);
  references = no_references (section_tags s g);
}

-- the output file of a group
unfoldable pub section_file : (K : ℕ) → Sheet → ℕ → File
section_file K s g = section_file_of s g (built_of K (section_graph K s g))

-- of building's rules those that a run's survivors can break, in building's order
unfoldable pub section_faults : (K : ℕ) → Sheet → ℕ → Option Refusal
section_faults K s g =
    first_of (refuse SubjectLength (not (subject_ok s.subject))
    ∷ refuse UnresolvedKind (not (all (λ u. ltb u.kind reference_kinds) (section_unresolved s g)))
    ∷ refuse DepthOrder (not (depth_ok (facts_of s g).depth))
    ∷ refuse SeqNotRising (not (seqs_rise [] (section_labels s g)))
    ∷ refuse DeltaRange (not (deltas_fit K (section_first s g) (section_lists K s g)))
    ∷ refuse DeltaRange (not (deltas_fit K (section_first s g) (section_children K s g)))
    ∷ [])

-- building's rules, group by group
unfoldable pub section_rules : (K : ℕ) → Sheet → Option Refusal
section_rules K s = first_in (λ g. build_rules K (section_graph K s g)) (up_from 0 (length s.groups))

-- the archive's bytes
unfoldable pub section_bytes : (K : ℕ) → Sheet → List ℕ
section_bytes K s = encode (map (section_file K s) (up_from 0 (length s.groups)))

-- ── room ─────────────────────────────────────────────────────────────────────────────────────

-- 374: a file with a cover but no rows and no records. The length, version and kind of six records; the head with its subject; a count and one
-- offset for each set; the counts of unresolved records, roots, ranges and links
abbrev pub bare_size : ℕ
bare_size = 6 * 6 + (31 + max_subject) + edge_sets * (4 + 8) + 4 * 4

-- what a row adds (65 for two kinds): its offsets in each set, whether it is erased and its tag, its label
abbrev pub row_size : (K : ℕ) → ℕ
row_size K = edge_sets * (K * 8) + (1 + 8) + (4 + 4)

-- room for so many files, rows, unresolved records, roots, ranges, links and entries of all sets
abbrev pub room_for : (K : ℕ) → ℕ → ℕ → ℕ → ℕ → ℕ → ℕ → ℕ → ℕ
room_for K files rows unresolved roots ranges links entries =
    files * bare_size + (rows * row_size K + (unresolved * 13 + (roots * 16 + (ranges * 12 + (links * 16 + entries * 8)))))

-- room for an archive whose every count is at its limit. An entry of the new lists is in a forward set, and once more in a reverse or inbound set
abbrev pub max_archive_size : (K : ℕ) → ℕ
max_archive_size K = room_for K max_groups max_records max_records max_records max_records max_records (max_numbers + max_numbers)
