-- A source that can be taken next, as facts of the columns that are held.
use mathlib.Core.Path.{◌≡◌, sym, ◌∙◌, ap}
use mathlib.Core.Bool.{true, cond}
use mathlib.Core.Logic.{◌⊎◌, inl, inr}
use Prim.Native.Nat.{ℕ, ◌≤◌, ◌<◌, ◌+◌}
use native.Mathlib.Nat.{zero-add}
use native.Mathlib.Omega.{arith}
use lib.Dec.{ltb, leb, eqb}
use lib.ListN.{length, get_or, take, length-map}
use lib.Seq.{length-take-le, get_or-take}
use borrow.Author.Tests.{leb-true, leb-false, ltb-true}
use Rattle.lists.specs.Lists.{all}
use Rattle.lists.proofs.Tests.{tested, both, all-each}
use Rattle.lists.proofs.Each.{each-imp, each-get_or}
use Rattle.lists.proofs.Flat.{length-map-up_from, get_or-map-up_from}
use Rattle.columns.specs.Limits.{kinds, max_subject}
use Rattle.columns.specs.Building.{subject_ok}
use Rattle.archive.specs.File.{File}
use Rattle.cleaning.specs.Taking.{stored_link_count}
use Rattle.cleaning.specs.Source.{source_of, is_there}
use Rattle.cleaning.specs.Held.{sheet_with, no_facts}
use Rattle.cleaning.proofs.Taken.{RecordIn, Sound, there-read}
use Rattle.cleaning.proofs.HeldRows.{Ready}
use Rattle.run_state.specs.declared.Held.{Held}
use Rattle.run_state.specs.View.{flagged, has_cover, facts_at, sheet_in, held_in}
use Rattle.run_store.proofs.joined.Whole.{empty-listed}
use Rattle.run_store.proofs.joined.HeldOk.{SheetSound}

-- 42 of what is held and one file
pub record Few (h : Held) (f : File) : Type 0 where
  pub group : f.group < 16
  pub unresolved : h.sheet.unresolved.count + length f.unresolved ≤ 1024
  pub roots : h.sheet.roots.count + length f.roots ≤ 1024
  pub links : h.sheet.links.count + stored_link_count f.cover ≤ 1024

module _ (h : Held) (f : File) (flags : h.sheet.rows.count ≤ length h.erased) (q : Ready kinds (held_in h) (source_of kinds f)) where
  rows-held : length (held_in h).erased ≡ h.sheet.rows.count
  unfolding held_in
  rows-held = length-map (take h.sheet.rows.count h.erased) flagged ∙ length-take-le h.sheet.rows.count h.erased flags

  groups-held : length (held_in h).sheet.groups ≡ h.sheet.groups.count
  unfolding held_in sheet_in
  groups-held = length-map-up_from (facts_at h.sheet.groups) 0 h.sheet.groups.count

  start_is : (sheet_with (held_in h).sheet (source_of kinds f)).start ≡ cond (eqb h.sheet.groups.count 0) f.first h.sheet.start
  unfolding held_in sheet_in sheet_with source_of
  start_is = ap (λ b. cond b f.first h.sheet.start) (sym (empty-listed (facts_at h.sheet.groups) h.sheet.groups.count))

  first-is : cond (eqb h.sheet.groups.count 0) f.first h.sheet.start + h.sheet.rows.count ≡ f.first
  unfolding source_of
  first-is = ap (λ i. i + h.sheet.rows.count) (sym start_is) ∙ ap (λ i. (sheet_with (held_in h).sheet (source_of kinds f)).start + i) (sym rows-held) ∙ q.start

  stays-is : 0 < h.sheet.rows.count → cond (eqb h.sheet.groups.count 0) f.first h.sheet.start ≡ h.sheet.start
  unfolding held_in sheet_in
  stays-is l = sym start_is ∙ q.stays (omega (arith, rows-held))

  -- the group is the last one or one more
  pub group-is : (f.group ≡ h.sheet.groups.count) ⊎ (f.group + 1 ≡ h.sheet.groups.count)
  unfolding source_of
  group-is = elim (tested (leb h.sheet.groups.count f.group)) [
    | inl e ↦ inl (omega (arith, leb-true h.sheet.groups.count f.group e, q.within, groups-held))
    | inr e ↦ inr (omega (arith, leb-false h.sheet.groups.count f.group e, q.last, groups-held))
  ]

  -- and agrees with it on the cover
  pub cover_is : f.group < h.sheet.groups.count → has_cover h.sheet.groups f.group ≡ is_there f.cover
  unfolding held_in sheet_in source_of facts_at
  cover_is l =
      let g = h.sheet.groups in
      let at = get_or-map-up_from (facts_at g) 0 g.count f.group no_facts l in
      ap (has_cover g) (sym (zero-add f.group)) ∙ sym (ap (λ x. x.covered) at) ∙ q.covered (omega (arith, groups-held)) ∙ there-read f.cover

  -- every row that is held has a group that is there
  pub known_is : h.sheet.rows.count ≤ length h.sheet.rows.groups
      → all (λ g. ltb g (length (held_in h).sheet.groups)) (held_in h).sheet.row_groups ≡ true
      → (i : ℕ) → i < h.sheet.rows.count → get_or h.sheet.rows.groups i 0 < h.sheet.groups.count
  unfolding held_in sheet_in
  known_is long e i l =
      let n = h.sheet.rows.count in
      let gs = h.sheet.rows.groups in
      let m = length (held_in h).sheet.groups in
      let t = each-get_or (λ g. ltb g m ≡ true) (take n gs) i 0 (all-each (λ g. ltb g m) (take n gs) e) (omega (arith, length-take-le n gs long)) in
      omega (arith, ltb-true (get_or (take n gs) i 0) m t, get_or-take n gs i 0 l, groups-held)

  -- what the rules of the file say
  pub sheet-sound : Sound kinds (source_of kinds f) → Few h f → SheetSound h.sheet f
  unfolding source_of subject_ok
  sheet-sound d few = record {
    first = first-is;
    stays = stays-is;
    end = d.numbers;
    subject = leb-true (length f.subject) max_subject (both (ltb 0 (length f.subject)) _ d.subject).1;
    group = few.group;
    unresolved_few = few.unresolved;
    roots_few = few.roots;
    links_few = few.links;
    children = each-imp (RecordIn (source_of kinds f)) (λ u. (f.first ≤ u.child) × (u.child < f.first + length f.rows)) f.unresolved (λ u t. (t.0, t.1)) d.unresolved;
    roots = d.roots;
    below = d.below;
  }
