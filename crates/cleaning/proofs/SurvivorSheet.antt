-- The sheet of the survivors is the archive cleaned: the summary that it holds is the summary out of the tables.
use mathlib.Core.Path.{◌≡◌, refl, ap, ap₂, sym, ◌∙◌}
use mathlib.Core.Bool.{Bool, true, false, cond, not}
use mathlib.Core.Logic.{inl, inr}
use mathlib.Core.List.{List, [], ◌∷◌, ◌++◌, map, map-map, append-nil}
use mathlib.Core.Option.{none, some}
use Prim.Native.Nat.{ℕ, zero, suc, ◌+◌, ◌-◌, ◌*◌, ◌≤◌, ◌<◌}
use native.Mathlib.Omega.{arith}
use native.Mathlib.Nat.{zero-add}
use lib.Dec.{eqb}
use lib.ListN.{length, get_or, length-map}
use borrow.Author.Tests.{eqb-true, eqb-false}
use Rattle.lists.specs.Lists.{flat, filter, part, up_from}
use Rattle.lists.proofs.Tests.{tested}
use Rattle.lists.proofs.Each.{each-imp}
use Rattle.lists.proofs.Flat.{map-ext, length-up_from, get_or-up_from}
use Rattle.lists.proofs.Filters.{each_below}
use Rattle.columns.specs.Limits.{Served}
use Rattle.cover.specs.Chains.{Link, sort_links}
use Rattle.cleaning.specs.Archive.{Group, at}
use Rattle.cleaning.specs.Cleaning.{rank, survivors}
use Rattle.cleaning.specs.Summary.{Kept, kept, group_summary, kept_in, tabled}
use Rattle.cleaning.specs.Sheet.{Facts, GroupLink, row_count, body_at, parents_at, links_of, groups_from, groups_of_sheet, summary_of}
use Rattle.cleaning.specs.Held.{Held, event_at, archive_held}
use Rattle.cleaning.specs.Survivors.{keep, rank_in, keep_slots, sort_groups, survivor_sheet}
use Rattle.cleaning.specs.Runs.{slotted}
use Rattle.cleaning.proofs.Survivors.{Survives, survive-from, map-rank-survivors, length-survivors}
use Rattle.cleaning.proofs.SheetFacts.{Rows}
use Rattle.cleaning.proofs.GroupLinks.{in_group, links-append, links-own, links-other}
use Rattle.cleaning.proofs.HeldColumns.{events-length, event-held, events-erased, slotted-row}
use Rattle.cleaning.proofs.Parts.{block_at}
use Rattle.cleaning.proofs.Ranks.{length-keep, keep_at, each_keep, keep-slots, rank-counts, count-flags, rank_below, keep-root, keep-references}

-- ── groups ───────────────────────────────────────────────────────────────────────────────────

module _ (f : ℕ → List Link) where
  links-past : (i n j : ℕ) → j < i → links_of (flat (λ g. in_group g (f g)) (up_from i n)) j ≡ []
  unfolding up_from links_of filter
  links-past i zero j h = refl
  links-past i (suc n) j h =
      links-append (in_group i (f i)) (flat (λ g. in_group g (f g)) (up_from (suc i) n)) j
      ∙ ap₂ ◌++◌ (links-other i j (f i) (λ e. omega arith)) (links-past (suc i) n j (omega arith))

  -- links put group by group: a group's links are those put for it
  links_span : (i n j : ℕ) → i ≤ j → j < i + n → links_of (flat (λ g. in_group g (f g)) (up_from i n)) j ≡ f j
  unfolding up_from
  links_span i zero j h l = absurd (omega arith)
  links_span i (suc n) j h l =
      links-append (in_group i (f i)) (flat (λ g. in_group g (f g)) (up_from (suc i) n)) j
      ∙ elim (tested (eqb i j)) [
        | inl e ↦ let q : j ≡ i = sym (eqb-true i j e) in
            rw q (ap₂ ◌++◌ (links-own i (f i)) (links-past (suc i) n i (omega arith)) ∙ append-nil (f i))
        | inr e ↦ ap₂ ◌++◌ (links-other i j (f i) (eqb-false i j e)) (links_span (suc i) n j (omega (arith, eqb-false i j e)) (omega arith))
      ]

groups-sorted : (n : ℕ) (ls : List GroupLink) (g : ℕ) (fs : List Facts) → g + length fs ≤ n
    → groups_from (sort_groups n ls) g fs ≡ map group_summary (groups_from ls g fs)
unfolding groups_from sort_groups
groups-sorted n ls g [] h = refl
groups-sorted n ls g (f ∷ fs) h =
    ap₂ (λ x xs. x ∷ xs) (rw (links_span (λ j. sort_links (links_of ls j)) 0 n g (omega arith) (omega arith)) (go f.covered))
    (groups-sorted n ls (1 + g) fs (omega arith))
  where
    go : (b : Bool)
        → ◌≡◌ {A = Group} (record { depth = f.depth; links = cond b (some (sort_links (links_of ls g))) none })
        (group_summary (record { depth = f.depth; links = cond b (some (links_of ls g)) none }))
    go true = refl
    go false = refl

-- ── rows ─────────────────────────────────────────────────────────────────────────────────────

module _ (K : ℕ) (served : Served K) (h : Held) (r : Rows K h) where
  rank-held : (p : ℕ) → rank (archive_held K h) p ≡ rank_in h.erased (p - h.sheet.start)
  unfolding rank archive_held
  rank-held p = sym (rank-counts (archive_held K h).events (p - h.sheet.start)) ∙ ap (λ es. rank_in es (p - h.sheet.start)) (events-erased K served h r)

  module _ (ts : List (List (List ℕ))) (w : length ts ≡ K) where
    new : List (List ℕ)
    new = slotted (length (archive_held K h).events) ts

    row_new : (i : ℕ) → i < length h.erased → part (K * i) K new ≡ map (λ t. get_or t i []) ts
    unfolding new
    row_new i l = slotted-row K served (length (archive_held K h).events) ts w i (omega (arith, events-length K served h r))

    -- the lists of a survivor stand at its rank
    row_kept : (i : ℕ) → i < length h.erased → get_or h.erased i false ≡ false
        → part (K * rank_in h.erased i) K (keep_slots K h.erased new) ≡ map (λ t. get_or t i []) ts
    row_kept i l s =
        let n = length h.erased in
        let places = keep h.erased (up_from 0 n) in
        let f : ℕ → List (List ℕ) = λ j. part (K * j) K new in
        rw (keep-slots K served h.erased new)
        (block_at f K places (rank_in h.erased i) 0
        (each_keep (λ j. length (f j) ≡ K) h.erased (up_from 0 n)
        (each_below (λ j. length (f j) ≡ K) n (λ j m. ap length (row_new j m) ∙ length-map ts (λ t. get_or t j []) ∙ w)))
        (omega (arith, length-keep h.erased (up_from 0 n) (length-up_from 0 n), rank_below h.erased i l s))
        ∙ ap f (keep_at h.erased (up_from 0 n) i 0 (length-up_from 0 n) l s ∙ get_or-up_from 0 n i 0 l ∙ zero-add i)
        ∙ row_new i l)

    -- what follows a survivor stands at its rank
    body_kept : (i : ℕ) → i < length h.erased → get_or h.erased i false ≡ false → body_at (survivor_sheet K h new) (rank_in h.erased i) ≡ body_at h.sheet i
    unfolding body_at survivor_sheet
    body_kept i l s =
        let es = h.erased in
        let group = keep_at es h.sheet.row_groups i 0 r.groups l s in
        let tag = keep_at es h.sheet.tags i 0 r.tags l s in
        let label = keep_at es h.sheet.labels i none r.labels l s in
        let root = keep-root es i l s h.sheet.roots r.roots in
        let unresolved = keep-references es i l s h.sheet.start h.sheet.unresolved r.unresolved in
        λ k. record { group = group k; tag = tag k; label = label k; root = root k; unresolved = unresolved k }

    survivor-row : (p : ℕ) → Survives h.sheet.start (archive_held K h).events p
        → kept (body_at (survivor_sheet K h new) (rank (archive_held K h) p)) (parents_at K (survivor_sheet K h new) (rank (archive_held K h) p)) ≡ kept_in (archive_held K h) ts p
    unfolding kept_in parents_at survivor_sheet at event_at archive_held
    survivor-row p w' =
        let i = p - h.sheet.start in
        let l : i < length h.erased = omega (arith, w'.0, events-length K served h r) in
        let e = event-held K served h r i l in
        let s : get_or h.erased i false ≡ false = sym (ap (λ x. x.erased) e) ∙ w'.1 in
        rw (rank-held p, e) (ap₂ kept (body_kept i l s) (row_kept i l s))

    row_count_lem : row_count (survivor_sheet K h new) ≡ length (survivors (archive_held K h))
    unfolding survivor_sheet
    row_count_lem =
        length-keep h.erased h.sheet.tags r.tags ∙ ap (λ es. length (filter not es)) (sym (events-erased K served h r))
        ∙ count-flags (archive_held K h).events ∙ sym (length-survivors (archive_held K h))

    rows-held : (summary_of K (survivor_sheet K h new)).rows ≡ map (kept_in (archive_held K h) ts) (survivors (archive_held K h))
    unfolding summary_of survivors archive_held
    rows-held =
        let A = archive_held K h in
        let f : ℕ → Kept = λ i. kept (body_at (survivor_sheet K h new) i) (parents_at K (survivor_sheet K h new) i) in
        ap (λ n. map f (up_from 0 n)) row_count_lem ∙ ap (map f) (sym (map-rank-survivors A)) ∙ map-map f (rank A) (survivors A)
        ∙ map-ext (λ p. f (rank A p)) (kept_in A ts) (survivors A)
        (each-imp (Survives A.start A.events) (λ p. f (rank A p) ≡ kept_in A ts p) (survivors A) survivor-row (survive-from A.start A.events))

pub summary-held : (K : ℕ) (served : Served K) (h : Held) (ts : List (List (List ℕ))) → Rows K h → length ts ≡ K
    → summary_of K (survivor_sheet K h (slotted (length (archive_held K h).events) ts)) ≡ tabled (archive_held K h) ts
unfolding summary_of tabled survivor_sheet archive_held groups_of_sheet new
summary-held K served h ts r w =
    let groups = groups-sorted (length h.sheet.groups) h.sheet.links 0 h.sheet.groups (omega arith) in
    let rows = rows-held K served h r ts w in
    λ k. record { start = h.sheet.start; subject = h.sheet.subject; groups = groups k; rows = rows k }
