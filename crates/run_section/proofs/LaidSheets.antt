-- A run's survivors laid as tables: the tables stand for the same sheet, and are sorted where its columns are in order.
use mathlib.Core.Path.{◌≡◌, refl, ap, ap₂, ◌∙◌}
use mathlib.Core.Bool.{true}
use mathlib.Core.List.{List, ◌∷◌, map}
use Prim.Native.Nat.{ℕ, zero, suc, ◌+◌, ◌*◌, ◌≤◌, ◌<◌}
use native.Mathlib.Omega.{arith}
use native.Mathlib.Nat.{zero-mul}
use lib.ListN.{length, take, drop}
use lib.Seq.{drop-drop}
use Rattle.lists.specs.Lists.{up_from}
use Rattle.lists.specs.Order.{rising, not_falling}
use Rattle.lists.proofs.Tests.{both}
use Rattle.lists.proofs.Rising.{rising-level}
use Rattle.columns.specs.Limits.{kinds}
use Rattle.archive_bytes.specs.Bytes.{several}
use Rattle.run_state.specs.declared.Sheet.{Sheet}
use Rattle.run_state.specs.View.{listed, label_at, unresolved_at, root_at, link_at, slots_in, sheet_in}
use Rattle.run_state.specs.Valid.{counts_ok, sheet_ok}
use Rattle.run_state.specs.order.Ordered.{groups_ordered, ordered}
use Rattle.run_state.proofs.order.Turns.{rows_few, children-few, roots_few, links_few}
use Rattle.run_section.specs.Tables.{keys, label_in, unresolved_in, root_in, link_in, sheet_of}
use Rattle.run_section.specs.Sections.{SortedTable, Sorted}
use Rattle.run_section.specs.Laid.{Column, SheetLaid, counts_of}
use Rattle.run_section.proofs.Laying.{column-at}

-- records by what stands at each place
module _ {A : Type 0} (w : ℕ) (f : List ℕ → A) (g : ℕ → A) (t : List ℕ) where
  records-from : (a n : ℕ) → ((i : ℕ) → i < a + n → f (drop (i * w) t) ≡ g i) → several w f n (drop (a * w) t) ≡ map g (up_from a n)
  unfolding several up_from
  records-from a zero h = refl
  records-from a (suc n) h =
      let e : a * w + w ≡ suc a * w = omega arith in
      ap₂ (λ x xs. x ∷ xs) (h a (omega arith)) (ap (several w f n) (drop-drop w (a * w) t ∙ ap (λ k. drop k t) e) ∙ records-from (suc a) n (λ i b. h i (omega arith)))

  pub records-listed : (n : ℕ) → ((i : ℕ) → i < n → f (drop (i * w) t) ≡ g i) → several w f n t ≡ listed g n
  records-listed n h = rw (zero-mul w) at (records-from 0 n (λ i b. h i (omega arith)))

pub keys-laid : {w n bound : ℕ} {column t : List ℕ} → Column w 0 n bound column t → keys w n t ≡ take n column
unfolding keys
keys-laid c = c.is

-- keys that do not fall make a sorted table
sorted-by : {w n bound : ℕ} {column t : List ℕ} → Column w 0 n bound column t → 0 < w → n * w ≤ length t → not_falling (take n column) ≡ true → SortedTable w n t
sorted-by c h r o = record { wide = h; there = r; level = rw (keys-laid c) o }

module _ (s : Sheet) {rows unresolved roots links : List ℕ} (t : SheetLaid s rows unresolved roots links) where
  labels-laid : several 4 (label_in s.groups) s.rows.count rows ≡ listed (label_at s.groups s.rows) s.rows.count
  unfolding label_at
  labels-laid = records-listed 4 (label_in s.groups) (label_at s.groups s.rows) rows s.rows.count
      (λ i h. let r = t.rows_laid in rw (column-at r.group i h, column-at r.chain i h, column-at r.seq i h))

  references-laid : several 3 unresolved_in s.unresolved.count unresolved ≡ listed (unresolved_at s.unresolved) s.unresolved.count
  unfolding unresolved_at
  references-laid = records-listed 3 unresolved_in (unresolved_at s.unresolved) unresolved s.unresolved.count
      (λ i h. let r = t.unresolved_laid in rw (column-at r.child i h, column-at r.kind i h, column-at r.handle i h))

  roots-listed : several 2 root_in s.roots.count roots ≡ listed (root_at s.roots) s.roots.count
  unfolding root_at
  roots-listed = records-listed 2 root_in (root_at s.roots) roots s.roots.count
      (λ i h. let r = t.roots_laid in rw (column-at r.row i h, column-at r.handle i h))

  links-listed : several 5 link_in s.links.count links ≡ listed (link_at s.links) s.links.count
  unfolding link_at
  links-listed = records-listed 5 link_in (link_at s.links) links s.links.count
      (λ i h. let r = t.links_laid in rw (
        column-at r.group i h,
        column-at r.from_chain i h,
        column-at r.from_seq i h,
        column-at r.to_chain i h,
        column-at r.to_seq i h,
      ))

  pub laid-sheet : sheet_of (counts_of s) (take s.subject.length s.subject.bytes) s.groups rows unresolved roots links
      (take (kinds * s.rows.count + 1) s.edges.offsets) (take s.edges.count s.edges.targets) ≡ sheet_in s
  unfolding sheet_of sheet_in slots_in
  laid-sheet = rw (keys-laid t.rows_laid.group, t.rows_laid.tag.is, labels-laid, references-laid, roots-listed, links-listed)

  pub laid-sorted : sheet_ok s ≡ true → ordered s ≡ true → Sorted (counts_of s) rows unresolved roots links
  unfolding sheet_ok ordered groups_ordered
  laid-sorted k o =
      let c = (both (counts_ok s) _ k).0 in
      let a = both (groups_ordered s.groups.count s.rows.count s.rows.groups) _ o in
      let b = both (groups_ordered s.groups.count s.links.count s.links.groups) _ a.1 in
      let d = both (rising (take s.roots.count s.roots.rows)) _ b.1 in
      record {
        by_group = sorted-by t.rows_laid.group (omega arith) (omega (arith, rows_few s c, t.rows_laid.long)) (both _ _ a.0).0;
        by_child = sorted-by t.unresolved_laid.child (omega arith) (omega (arith, children-few s c, t.unresolved_laid.long)) d.1;
        by_row = sorted-by t.roots_laid.row (omega arith) (omega (arith, roots_few s c, t.roots_laid.long)) (rising-level (take s.roots.count s.roots.rows) d.0);
        by_link = sorted-by t.links_laid.group (omega arith) (omega (arith, links_few s c, t.links_laid.long)) (both _ _ b.0).0;
      }
