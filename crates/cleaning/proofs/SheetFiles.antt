-- The output files of a tidy sheet out of parts of its flat lists: what building is given of each group, the files, and what writing answers.
use mathlib.Core.Path.{◌≡◌, refl, ap, ap₂, sym, ◌∙◌}
use mathlib.Core.Bool.{Bool, true, false, cond, false≢true}
use mathlib.Core.Logic.{inl, inr}
use mathlib.Core.List.{List, [], ◌∷◌, map, map-map}
use mathlib.Core.Option.{none, some}
use Prim.Native.Nat.{ℕ, suc, ◌+◌, ◌≤◌, ◌<◌}
use native.Mathlib.Omega.{arith}
use lib.Dec.{eqb, ltb}
use lib.ListN.{length}
use borrow.Author.Tests.{eqb-true, eqb-false, lt-ltb, le-ltb, ltb-true, ltb-false}
use Rattle.columns.specs.Limits.{Served}
use Rattle.lists.specs.Lists.{flat, filter, joined, starts, mem, up_from}
use Rattle.lists.proofs.Tests.{tested}
use Rattle.lists.proofs.Flat.{map-ext, flat_map}
use Rattle.lists.proofs.Filters.{each_below}
use Rattle.columns.specs.Refusal.{unless}
use Rattle.columns.specs.Building.{build_rules, built_of}
use Rattle.cover.specs.Chains.{Link}
use Rattle.archive.specs.File.{no_references}
use Rattle.archive.specs.Encode.{encode}
use Rattle.cleaning.specs.Sheet.{Facts, GroupLink, Sheet, groups_from, groups_of_sheet, summary_of}
use Rattle.cleaning.specs.Writing.{Numbered, rows_in, first_number, labels_in, labels_of_group, edges_into, edges_of, inbound_columns, unresolved_columns, graph_of_rows}
use Rattle.cleaning.specs.Writing.{group_at, graph_of, cover_of_group, output_of, group_numbers, outputs, write_rules, bytes_of, written}
use Rattle.cleaning.specs.Sections.{Tidy, Filled, facts_of, reaches, place, section_start, section_rows, section_first, section_end, section_labels, section_links}
use Rattle.cleaning.specs.Sections.{section_edges, row_edges, other_rows, labels_where, cover_where, unerased_row, section_graph, section_file, section_rules, section_bytes}
use Rattle.cleaning.proofs.Places.{place-rises}
use Rattle.cleaning.proofs.FirstRules.{first-ext}
use Rattle.cleaning.proofs.SheetRows.{row_at, section-end, others-section, count-section, first-section, tags-section, labels-section, lists-section}
use Rattle.cleaning.proofs.SheetRecords.{unresolved-section, roots-section, group-section}

-- ── a group's file ───────────────────────────────────────────────────────────────────────────

labels-where : (b : Bool) (links : List Link) (rs : List Numbered) → labels_of_group (cond b (some links) none) rs ≡ labels_where b (labels_in rs)
labels-where true links rs = refl
labels-where false links rs = refl

cover-where : (b : Bool) (links : List Link) (rs : List Numbered) → cover_of_group (cond b (some links) none) rs ≡ cover_where b (labels_in rs) links
cover-where true links rs = refl
cover-where false links rs = refl

module _ (K : ℕ) (served : Served K) (s : Sheet) (t : Tidy K s) (g : ℕ) where
  pub edges-section : (first end : ℕ) → edges_of (summary_of K s) g first end ≡ flat (row_edges K s first end) (other_rows s g)
  unfolding edges_of row_edges
  edges-section first end = rw (others-section K served s t g) (flat_map (λ r. edges_into first end r.number 0 r.row.parents) (row_at K s) (other_rows s g))

  module _ (l : g < length s.groups) (some-row : 0 < section_rows s g) where
    end-section : first_number (rows_in (summary_of K s) g) + length (rows_in (summary_of K s) g) ≡ section_end s g
    end-section = omega (arith, first-section K served s t g some-row, count-section K served s t g, section-end K served s t g)

    pub graph-section : graph_of (summary_of K s) g ≡ section_graph K s g
    unfolding graph_of graph_of_rows section_graph summary_of
    graph-section =
        let rs = rows_in (summary_of K s) g in
        let first = first-section K served s t g some-row in
        let n = count-section K served s t g in
        let lists = lists-section K served s t g in
        let group = group-section K served s t g l in
        let labels : labels_of_group (group_at (summary_of K s) g).links rs ≡ labels_where (facts_of s g).covered (section_labels s g) =
        ap (λ x. labels_of_group x.links rs) group ∙ labels-where (facts_of s g).covered (section_links s g) rs
        ∙ ap (labels_where (facts_of s g).covered) (labels-section K served s t g) in
        let edges : edges_of (summary_of K s) g (first_number rs) (first_number rs + length rs) ≡ section_edges K s g =
        ap₂ (edges_of (summary_of K s) g) first end-section ∙ edges-section (section_first s g) (section_end s g) in
        λ k. record {
          subject = s.subject;
          first = first k;
          rows = n k;
          offsets = starts 0 (lists k);
          targets = joined (lists k);
          unresolved = unresolved_columns (unresolved-section K served s t g k);
          depth = (group k).depth;
          labels = labels k;
          inbound = inbound_columns (edges k);
          granule_first = 0;
          granule_rows = n k;
        }

    pub file-section : output_of K (summary_of K s) g ≡ section_file K s g
    unfolding output_of section_file summary_of
    file-section =
        let rs = rows_in (summary_of K s) g in
        let group = group-section K served s t g l in
        let b = ap (built_of K) graph-section in
        let rows = sym (map-map unerased_row (λ r. r.row.body.tag) rs) ∙ ap (map unerased_row) (tags-section K served s t g) in
        let references = sym (map-map (λ x. []) (λ r. r.row.body.tag) rs) ∙ ap no_references (tags-section K served s t g) in
        let cover : cover_of_group (group_at (summary_of K s) g).links rs ≡ cover_where (facts_of s g).covered (section_labels s g) (section_links s g) =
        ap (λ x. cover_of_group x.links rs) group ∙ cover-where (facts_of s g).covered (section_links s g) rs
        ∙ ap (λ ls. cover_where (facts_of s g).covered ls (section_links s g)) (labels-section K served s t g) in
        λ k. record {
          first = first-section K served s t g some-row k;
          group = g;
          subject = s.subject;
          depth = (group k).depth;
          forward = (b k).forward;
          reverse = (b k).reverse;
          inbound = (b k).inbound;
          rows = rows k;
          unresolved = unresolved-section K served s t g k;
          roots = roots-section K served s t g k;
          cover = cover k;
          references = references k;
        }

-- ── every group has a row ────────────────────────────────────────────────────────────────────

reaches-mem : (n seen : ℕ) (xs : List ℕ) (g : ℕ) → reaches n seen xs ≡ true → seen ≤ g → g < n → mem g xs ≡ true
unfolding reaches mem
reaches-mem n seen [] g h l m = absurd (omega (arith, eqb-true seen n h))
reaches-mem n seen (x ∷ xs) g h l m = elim (tested (eqb x seen)) [
  | inl e ↦ elim (tested (eqb g x)) [
    | inl f ↦ rw f
    | inr f ↦ rw f (reaches-mem n (suc seen) xs g (rw e at h) (omega (arith, eqb-true x seen e, eqb-false g x f)) m)
  ]
  | inr e ↦ elim (tested (eqb g x)) [ inl f ↦ rw f | inr f ↦ rw f (reaches-mem n seen xs g (rw e at h) l m) ]
]

mem-place : (g : ℕ) (xs : List ℕ) → mem g xs ≡ true → place g xs < place (suc g) xs
unfolding place filter mem
mem-place g [] h = absurd (false≢true h)
mem-place g (x ∷ xs) h = elim (tested (eqb g x)) [
  | inl e ↦ let q = eqb-true g x e in
      rw (le-ltb x g (omega arith), lt-ltb x (suc g) (omega arith)) (omega (arith, place-rises g (suc g) xs (omega arith)))
  | inr e ↦ let ih = mem-place g xs (rw e at h) in
      elim (tested (ltb x g)) [
        | inl f ↦ rw (f, lt-ltb x (suc g) (omega (arith, ltb-true x g f))) (omega arith)
        | inr f ↦ rw (f, le-ltb x (suc g) (omega (arith, ltb-false x g f, eqb-false g x e))) ih
      ]
]

pub filled-section : (s : Sheet) → Filled s → (g : ℕ) → g < length s.groups → 0 < section_rows s g
unfolding section_rows section_start
filled-section s h g l = omega (arith, mem-place g s.row_groups (reaches-mem (length s.groups) 0 s.row_groups g h (omega arith) l))

-- ── writing ──────────────────────────────────────────────────────────────────────────────────

pub groups-length : (ls : List GroupLink) (g : ℕ) (fs : List Facts) → length (groups_from ls g fs) ≡ length fs
unfolding groups_from
groups-length ls g [] = refl
groups-length ls g (f ∷ fs) = ap suc (groups-length ls (1 + g) fs)

module _ (K : ℕ) (served : Served K) (s : Sheet) (t : Tidy K s) (f : Filled s) where
  numbers-sections : group_numbers (summary_of K s) ≡ up_from 0 (length s.groups)
  unfolding summary_of groups_of_sheet
  numbers-sections = ap (up_from 0) (groups-length s.links 0 s.groups)

  pub rules-sections : write_rules K (summary_of K s) ≡ section_rules K s
  unfolding write_rules section_rules
  rules-sections =
      rw numbers-sections
      (first-ext (λ g. build_rules K (graph_of (summary_of K s) g)) (λ g. build_rules K (section_graph K s g)) (up_from 0 (length s.groups))
      (each_below _ (length s.groups) (λ g l. ap (build_rules K) (graph-section K served s t g l (filled-section s f g l)))))

  pub bytes-sections : bytes_of K (summary_of K s) ≡ section_bytes K s
  unfolding bytes_of outputs section_bytes
  bytes-sections =
      rw numbers-sections
      (ap encode
      (map-ext (output_of K (summary_of K s)) (section_file K s) (up_from 0 (length s.groups))
      (each_below _ (length s.groups) (λ g l. file-section K served s t g l (filled-section s f g l)))))

  -- what writing answers but for the room that it is lent
  pub written-sections : written K (summary_of K s) ≡ unless (section_rules K s) (section_bytes K s)
  unfolding written
  written-sections = ap₂ unless rules-sections bytes-sections
