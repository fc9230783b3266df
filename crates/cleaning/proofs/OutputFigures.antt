-- Figures of output files: how many records the rows of a group give, and sums over all files as sums over rows, groups or entries.
use mathlib.Core.Path.{◌≡◌, refl, ap, sym, ◌∙◌}
use mathlib.Core.Bool.{false}
use mathlib.Core.Logic.{inl, inr}
use mathlib.Core.List.{List, [], ◌∷◌, map, foldl}
use mathlib.Core.Option.{Option, none, some}
use Prim.Native.Nat.{ℕ, suc, ◌+◌, ◌≤◌, ◌<◌}
use native.Mathlib.Omega.{arith}
use native.Mathlib.Nat.{zero-add}
use borrow.Author.Tests.{le-ltb, eqb-true}
use lib.Dec.{ltb, eqb}
use lib.ListN.{length, length-append, length-map}
use Rattle.columns.specs.Limits.{Served}
use Rattle.lists.specs.Lists.{flat, sum, add, mem}
use Rattle.lists.proofs.Tests.{tested, both}
use Rattle.lists.proofs.Once.{add-there, add-new}
use Rattle.lists.proofs.Flat.{length-flat, length-joined}
use Rattle.columns.specs.EdgeSet.{set_of}
use Rattle.columns.specs.Reading.{Label}
use Rattle.columns.proofs.ReadBack.{set-count}
use Rattle.cover.specs.Chains.{Range, Link, add_label, ranges_of}
use Rattle.cover.specs.Cover.{even_columns, links_ok, columns_of}
use Rattle.cover.proofs.Stored.{stored_ok}
use Rattle.archive.specs.File.{File}
use Rattle.cleaning.specs.Source.{Source}
use Rattle.cleaning.specs.Taking.{total, stored_ranges, stored_link_count}
use Rattle.cleaning.specs.Archive.{Group}
use Rattle.cleaning.specs.Summary.{Kept, Summary}
use Rattle.cleaning.specs.Writing.{Numbered, numbered, rows_in, unresolved_of, root_of, roots_from, label_list, labels_in, no_group, group_at, cover_of_group, file_of_rows, output_of, outputs, group_numbers}
use Rattle.cleaning.proofs.Good.{GoodLinks, link_number, Good}
use Rattle.lists.proofs.Filters.{each_below, map-places}
use Rattle.cleaning.proofs.Numbers.{sum-numbered}
use Rattle.cleaning.proofs.Blocks.{all-rows}
use Rattle.cleaning.proofs.OutputSets.{sets_of, output-sets}
use Rattle.lists.proofs.Counting.{sum-equal}
use Rattle.lists.proofs.Sums.{sum-map, sum-flat, sum-le}

-- ── records of some rows ─────────────────────────────────────────────────────────────────────

pub roots_few : (i : ℕ) (rs : List Numbered) → length (roots_from i rs) ≤ length rs
unfolding roots_from
roots_few i [] = omega arith
roots_few i (r ∷ rs) = omega (arith, length-append (root_of i r.row.body.root) (roots_from (suc i) rs), one r.row.body.root, roots_few (suc i) rs)
  where
    one : (o : Option ℕ) → length (root_of i o) ≤ 1
    one none = omega arith
    one (some h) = omega arith

labels-few : (rs : List Numbered) → length (labels_in rs) ≤ length rs
unfolding labels_in
labels-few [] = omega arith
labels-few (r ∷ rs) = omega (arith, length-append (label_list r.row.body.label) (labels_in rs), one r.row.body.label, labels-few rs)
  where
    one : (o : Option Label) → length (label_list o) ≤ 1
    one none = omega arith
    one (some l) = omega arith

add-label-few : (rs : List Range) (l : Label) → length (add_label rs l) ≤ suc (length rs)
unfolding add_label
add-label-few [] l = omega arith
add-label-few (r ∷ rs) l = elim (tested (ltb r.chain l.chain)) [
  | inl e ↦ rw e (omega (arith, add-label-few rs l))
  | inr e ↦ elim (tested (eqb r.chain l.chain)) [ inl f ↦ rw (e, f) (omega arith) | inr f ↦ rw (e, f) (omega arith) ]
]

pub ranges-few : (labels : List Label) → length (ranges_of labels) ≤ length labels
unfolding ranges_of
ranges-few labels = omega (arith, go [] labels)
  where
    go : (rs : List Range) (ls : List Label) → length (foldl add_label rs ls) ≤ length rs + length ls
    go rs [] = omega arith
    go rs (l ∷ ls) = omega (arith, go (add_label rs l) ls, add-label-few rs l)

pub cover-ranges : (links : Option (List Link)) (rs : List Numbered) → stored_ranges (cover_of_group links rs) ≤ length rs
cover-ranges none rs = omega arith
cover-ranges (some ls) rs = omega (arith, ranges-few (labels_in rs), labels-few rs)

pub length-from_chains : (ls : List Link) → GoodLinks (some ls) → length (columns_of ls).from_chains ≡ length ls
unfolding links_ok even_columns columns_of
length-from_chains ls h =
    let even = (both _ _ (both _ _ (stored_ok ls h.0 h.1)).0).0 in
    sym (eqb-true (length (map (λ l. l.from_seq) ls)) (length (columns_of ls).from_chains) even) ∙ length-map ls (λ l. l.from_seq)

pub cover-links : (links : Option (List Link)) (rs : List Numbered) → GoodLinks links → stored_link_count (cover_of_group links rs) ≡ link_number links
cover-links none rs h = refl
cover-links (some ls) rs h = length-from_chains ls h

pub references-counted : (rs : List Numbered) → length (flat unresolved_of rs) ≡ sum (λ r. length r.row.body.unresolved) rs
unfolding unresolved_of
references-counted rs =
    length-flat unresolved_of rs
    ∙ sum-equal (λ r. length (unresolved_of r)) (λ r. length r.row.body.unresolved) (λ r. length-map r.row.body.unresolved _) rs

add-few : (s : List ℕ) (x : ℕ) → length (add s x) ≤ suc (length s)
add-few s x = elim (tested (mem x s)) [
  | inl e ↦ rw (add-there s x e) (omega arith)
  | inr e ↦ rw (add-new s x e) (omega (arith, length-append s (x ∷ [])))
]

pub once-few : (s xs : List ℕ) → length (foldl add s xs) ≤ length s + length xs
once-few s [] = omega arith
once-few s (x ∷ xs) = omega (arith, once-few (add s x) xs, add-few s x)

pub length-deltas : (K : ℕ) (served : Served K) (first : ℕ) (lists : List (List ℕ)) → length (set_of K first lists).deltas ≡ sum length lists
unfolding set_of
length-deltas K served first lists = set-count K first lists ∙ length-joined lists

-- ── figures of all files ─────────────────────────────────────────────────────────────────────

module _ (K : ℕ) (served : Served K) (S : Summary) (good : Good K S) where
  -- a figure over the files, group by group
  pub files-sum : (f : File → ℕ) (h : ℕ → ℕ)
      → ((g : ℕ) → g < length S.groups → f (file_of_rows S.subject g (group_at S g) (rows_in S g) (sets_of K S g)) ≤ h g)
      → sum f (outputs K S) ≤ sum h (group_numbers S)
  unfolding outputs
  files-sum f h b =
      omega (
        arith,
        sum-map f (output_of K S) (group_numbers S),
        sum-le (λ g. f (output_of K S g)) h (group_numbers S)
            (each_below (λ g. f (output_of K S g) ≤ h g) (length S.groups) (λ g l. rw (output-sets K served S good g) (b g l))),
      )

  -- nothing is taken before them
  pub within : (limit : ℕ) (before : Source → ℕ) (f : File → ℕ) → sum f (outputs K S) ≤ limit → ltb limit (total before f [] (outputs K S)) ≡ false
  unfolding total sum
  within limit before f h = le-ltb limit (0 + sum f (outputs K S)) (omega arith)

  -- a figure over the rows, group by group
  pub rows-sum : (f : Kept → ℕ) → sum (λ g. sum (λ r. f r.row) (rows_in S g)) (group_numbers S) ≡ sum f S.rows
  unfolding numbered
  rows-sum f =
      sym (sum-flat (λ r. f r.row) (rows_in S) (group_numbers S)) ∙ ap (sum (λ r. f r.row)) (all-rows K served S good) ∙ sum-numbered f S.start S.rows

  pub groups-sum : (f : Group → ℕ) → sum (λ g. f (group_at S g)) (group_numbers S) ≡ sum f S.groups
  groups-sum f =
      sym (sum-map f (group_at S) (group_numbers S))
      ∙ ap (sum f) (map-places (group_at S) 0 S.groups no_group (λ j l. ap (group_at S) (zero-add j)))
