-- 42 and 43 over what is held and an archive: what is left of them for the archive's first file.
use mathlib.Core.Path.{◌≡◌}
use mathlib.Core.Bool.{Bool, false, ◌||◌}
use mathlib.Core.List.{List, ◌∷◌, ◌++◌, map}
use mathlib.Core.Option.{none}
use Prim.Native.Nat.{ℕ, ◌≤◌, ◌+◌}
use native.Mathlib.Omega.{arith}
use lib.Dec.{ltb}
use lib.ListN.{length}
use lib.Seq.{length-take-le}
use borrow.Author.Tests.{ltb-false}
use Rattle.lists.specs.Lists.{sum, once, up_from}
use Rattle.lists.proofs.Once.{or-is-false}
use Rattle.lists.proofs.Flat.{length-map-up_from}
use Rattle.columns.specs.Limits.{kinds, max_records, max_groups}
use Rattle.columns.specs.declared.refusal.Refusal.TheVariants.{OverRecords}
use Rattle.columns.proofs.FirstBroken.{each_none, not-refused}
use Rattle.archive.specs.File.{File}
use Rattle.cleaning.specs.Taking.{stored_ranges, stored_link_count, files_rules}
use Rattle.cleaning.specs.Sheet.{row_count}
use Rattle.cleaning.specs.Held.{records_over, look_back, hold_rules}
use Rattle.run_state.specs.declared.Held.{Held}
use Rattle.run_state.specs.View.{unresolved_at, root_at, link_at, sheet_in, held_in}

all-within : (m a b c d g : ℕ) (r : Bool) → (ltb m a || ltb m b || ltb m c || ltb m d || ltb m g || r) ≡ false → (a ≤ m) × (b ≤ m) × (c ≤ m) × (d ≤ m) × (g ≤ m)
all-within m a b c d g r e =
    let p = or-is-false (ltb m a || ltb m b || ltb m c || ltb m d || ltb m g) r e in
    let q = or-is-false (ltb m a || ltb m b || ltb m c || ltb m d) (ltb m g) p.0 in
    let s = or-is-false (ltb m a || ltb m b || ltb m c) (ltb m d) q.0 in
    let t = or-is-false (ltb m a || ltb m b) (ltb m c) s.0 in
    let u = or-is-false (ltb m a) (ltb m b) t.0 in (
      omega (arith, ltb-false m a u.0),
      omega (arith, ltb-false m b u.1),
      omega (arith, ltb-false m c t.1),
      omega (arith, ltb-false m d s.1),
      omega (arith, ltb-false m g q.1),
    )

module _ (h : Held) (f : File) (fs : List File) (tags : h.sheet.rows.count ≤ length h.sheet.rows.tags) (e : hold_rules kinds (held_in h) (f ∷ fs) ≡ none) where
  kept : records_over (held_in h) (f ∷ fs) ≡ false
  unfolding hold_rules
  kept = not-refused OverRecords (records_over (held_in h) (f ∷ fs)) (each_none _ e).1.0

  pub file-rules : files_rules kinds (look_back (held_in h).sheet) (f ∷ fs) ≡ none
  unfolding hold_rules
  file-rules = (each_none _ e).1.1.1.0

  few : (row_count (held_in h).sheet + sum (λ f. length f.rows) (f ∷ fs) ≤ max_records)
      × (length (held_in h).sheet.roots + sum (λ f. length f.roots) (f ∷ fs) ≤ max_records)
      × (length (held_in h).sheet.unresolved + sum (λ f. length f.unresolved) (f ∷ fs) ≤ max_records)
      × ((held_in h).ranges + sum (λ f. stored_ranges f.cover) (f ∷ fs) ≤ max_records)
      × (length (held_in h).sheet.links + sum (λ f. stored_link_count f.cover) (f ∷ fs) ≤ max_records)
  unfolding records_over
  few = all-within max_records (row_count (held_in h).sheet + sum (λ f. length f.rows) (f ∷ fs))
      (length (held_in h).sheet.roots + sum (λ f. length f.roots) (f ∷ fs))
      (length (held_in h).sheet.unresolved + sum (λ f. length f.unresolved) (f ∷ fs))
      ((held_in h).ranges + sum (λ f. stored_ranges f.cover) (f ∷ fs))
      (length (held_in h).sheet.links + sum (λ f. stored_link_count f.cover) (f ∷ fs))
      (ltb max_groups (length (once (up_from 0 (length (held_in h).sheet.groups) ++ map (λ f. f.group) (f ∷ fs))))) kept

  pub few_rows : h.sheet.rows.count + length f.rows ≤ 1024
  unfolding held_in sheet_in sum
  few_rows = omega (arith, few.0, length-take-le h.sheet.rows.count h.sheet.rows.tags tags)

  pub few-roots : h.sheet.roots.count + length f.roots ≤ 1024
  unfolding held_in sheet_in sum
  few-roots = omega (arith, few.1, length-map-up_from (root_at h.sheet.roots) 0 h.sheet.roots.count)

  pub few-unresolved : h.sheet.unresolved.count + length f.unresolved ≤ 1024
  unfolding held_in sheet_in sum
  few-unresolved = omega (arith, few.2, length-map-up_from (unresolved_at h.sheet.unresolved) 0 h.sheet.unresolved.count)

  pub few-links : h.sheet.links.count + stored_link_count f.cover ≤ 1024
  unfolding held_in sheet_in sum
  few-links = omega (arith, few.4, length-map-up_from (link_at h.sheet.links) 0 h.sheet.links.count)
