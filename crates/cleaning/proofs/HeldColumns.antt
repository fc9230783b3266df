-- The columns of what is held are the archive's: flags of the rows and their lists, slot by slot, are columns of the archive that is held, so that
-- what is made of them flat is what the archive's tables hold.
use mathlib.Core.Path.{◌≡◌, ap, sym, ◌∙◌}
use mathlib.Core.Bool.{false}
use mathlib.Core.List.{List, [], map, map-map}
use Prim.Native.Nat.{ℕ, ◌+◌, ◌-◌, ◌*◌, ◌/◌, ◌%◌, ◌<◌}
use native.Mathlib.Omega.{arith}
use native.Mathlib.Nat.{zero-add, mul-le-mul_left}
use lib.ListN.{length, get_or, length-map, get_or-map}
use lib.Seq.{ext_get_or}
use Rattle.lists.specs.Lists.{joined, part, up_from}
use Rattle.lists.proofs.Slots.{slot-parts, row_under, kind-under}
use Rattle.lists.proofs.Each.{each_map, each_all}
use Rattle.lists.proofs.Flat.{length-up_from, length-map-up_from, get_or-map-up_from, get_or-up_from, flat_map}
use Rattle.lists.proofs.Filters.{each_below, map-places}
use Rattle.lists.proofs.Cut.{length-blocks, get_or-blocks}
use Rattle.columns.specs.Limits.{Served}
use Rattle.run_renumber.specs.Numbers.{numbers_from, survivors}
use Rattle.run_renumber.specs.NewLists.{new_lists}
use Rattle.run_renumber.specs.Reparented
use Rattle.cleaning.specs.Archive.{Archive, blank}
use Rattle.cleaning.specs.Routes.{Valid}
use Rattle.cleaning.specs.Cleaning.{count, renumber, reparented}
use Rattle.cleaning.specs.Memo.{memo, tables}
use Rattle.cleaning.specs.Resolving.{entries}
use Rattle.cleaning.specs.Sheet.{row_count, parents_at}
use Rattle.cleaning.specs.Held.{Held, event_at, archive_held}
use Rattle.cleaning.specs.Runs.{slotted}
use Rattle.cleaning.proofs.Slots.{flagged, erased_of, lists_of, slot_list, Columns, numbers-new, survivors-new, new-lists, slot-new, entries-new, reparented-new}
use Rattle.cleaning.proofs.SheetFacts.{Rows}
use Rattle.cleaning.proofs.Parts.{length_part, block_at, parts_all}

-- ── the events of what is held ───────────────────────────────────────────────────────────────

module _ (K : ℕ) (served : Served K) (h : Held) (r : Rows K h) where
  pub events-length : length (archive_held K h).events ≡ length h.erased
  unfolding archive_held
  events-length = length-map-up_from (event_at K h) 0 (row_count h.sheet) ∙ r.tags

  pub event-held : (i : ℕ) → i < length h.erased → get_or (archive_held K h).events i blank ≡ event_at K h i
  unfolding archive_held
  event-held i l = get_or-map-up_from (event_at K h) 0 (row_count h.sheet) i blank (omega (arith, r.tags)) ∙ ap (event_at K h) (zero-add i)

  pub events-erased : map erased_of (archive_held K h).events ≡ h.erased
  unfolding archive_held event_at
  events-erased =
      map-map erased_of (event_at K h) (up_from 0 (row_count h.sheet))
      ∙ ap (λ n. map (λ i. get_or h.erased i false) (up_from 0 n)) r.tags
      ∙ map-places (λ i. get_or h.erased i false) 0 h.erased false (λ j l. ap (λ i. get_or h.erased i false) (zero-add j))

-- ── tables, slot by slot ─────────────────────────────────────────────────────────────────────

pub tables-length : (K : ℕ) (served : Served K) (A : Archive) → length (tables K A) ≡ K
unfolding tables
tables-length K served A = length-map-up_from (λ k. memo A k (length A.events)) 0 K

module _ (K : ℕ) (served : Served K) (n : ℕ) (ts : List (List (List ℕ))) (w : length ts ≡ K) where
  row : ℕ → List (List ℕ)
  row i = map (λ t. get_or t i []) ts

  row-wide : (i : ℕ) → length (row i) ≡ K
  unfolding row
  row-wide i = length-map ts (λ t. get_or t i []) ∙ w

  pub slotted-length : length (slotted n ts) ≡ K * n
  unfolding slotted row
  slotted-length = length-blocks row K row-wide (up_from 0 n) ∙ ap (λ m. K * m) (length-up_from 0 n)

  slotted-at : (i k : ℕ) → i < n → k < K → get_or (slotted n ts) (K * i + k) [] ≡ get_or (get_or ts k []) i []
  unfolding slotted row
  slotted-at i k h l =
      get_or-blocks row K row-wide (up_from 0 n) i k 0 [] (omega (arith, length-up_from 0 n)) l
      ∙ ap (λ j. get_or (row j) k []) (get_or-up_from 0 n i 0 h ∙ zero-add i)
      ∙ get_or-map (λ t. get_or t i []) ts k []

  -- the lists of a row
  pub slotted-row : (i : ℕ) → i < n → part (K * i) K (slotted n ts) ≡ map (λ t. get_or t i []) ts
  unfolding slotted row
  slotted-row i h =
      block_at row K (up_from 0 n) i 0 (each_all (λ j. length (row j) ≡ K) row-wide (up_from 0 n)) (omega (arith, length-up_from 0 n))
      ∙ ap row (get_or-up_from 0 n i 0 h ∙ zero-add i)

-- ── its columns ──────────────────────────────────────────────────────────────────────────────

module _ (K : ℕ) (served : Served K) (h : Held) (r : Rows K h) (flags : List ℕ) (e : map flagged flags ≡ h.erased) where
  pub held-columns : Columns K (archive_held K h) flags h.sheet.lists
  unfolding archive_held event_at parents_at
  held-columns = let n = row_count h.sheet in record {
    erased = events-erased K served h r ∙ sym e;
    wide = each_map (λ x. length x.parents ≡ K) (event_at K h) (up_from 0 n)
        (each_below _ n (λ i l. length_part (K * i) K h.sheet.lists (omega (arith, r.lists, ap (λ x. K * x) r.tags, mul-le-mul_left K l))));
    lists = flat_map lists_of (event_at K h) (up_from 0 n) ∙ parts_all K n h.sheet.lists (omega (arith, r.lists, ap (λ x. K * x) r.tags));
  }

  -- as many survivors as the archive has
  pub held-survivors : survivors flags ≡ count (archive_held K h).events
  held-survivors = survivors-new K served (archive_held K h) flags h.sheet.lists held-columns

  -- new numbers, row by row
  pub held-numbers : (i : ℕ) → i < length h.erased → get_or (numbers_from h.sheet.start flags) i 0 ≡ renumber (archive_held K h) (h.sheet.start + i)
  unfolding archive_held
  held-numbers i l =
      ap (λ j. get_or (numbers_from h.sheet.start flags) j 0) {x = i} {y = h.sheet.start + i - h.sheet.start} (omega arith)
      ∙ numbers-new K served (archive_held K h) flags h.sheet.lists held-columns (h.sheet.start + i) (omega arith) (omega (arith, events-length K served h r))

  pub held-reparented : Reparented.reparented K h.sheet.start flags h.sheet.lists ≡ reparented (archive_held K h)
  unfolding archive_held
  held-reparented = reparented-new K served (archive_held K h) flags h.sheet.lists held-columns

  -- ── new lists, where parents are below their events ────────────────────────────────────────

  module _ (v : Valid (archive_held K h)) where
    -- the entries of all new lists (43)
    pub held-entries : length (joined (new_lists K h.sheet.start flags h.sheet.lists)) ≡ entries (tables K (archive_held K h))
    unfolding archive_held
    held-entries = sym (entries-new K served (archive_held K h) flags h.sheet.lists held-columns v)

    -- the new lists are the tables', slot by slot
    pub held-lists : new_lists K h.sheet.start flags h.sheet.lists ≡ slotted (length (archive_held K h).events) (tables K (archive_held K h))
    unfolding archive_held
    held-lists =
        let A = archive_held K h in
        let n = length A.events in
        let made = ap length (new-lists K served A flags h.sheet.lists held-columns v) ∙ length-map-up_from (slot_list K A) 0 (K * n) in
        ext_get_or [] (new_lists K h.sheet.start flags h.sheet.lists) (slotted n (tables K A)) (made ∙ sym (slotted-length K served n (tables K A) (tables-length K served A)))
        (λ s l. let i = s / K in
        let k = s % K in
        let m : k < K = kind-under K s served.some in
        let q : s ≡ K * i + k = sym (slot-parts K s) in
        let b : i < n = row_under K n s served.some (omega (arith, made)) in
        rw q (slot-new K served A flags h.sheet.lists held-columns v i k b m ∙ sym (slotted-at K served n (tables K A) (tables-length K served A) i k b m)))
