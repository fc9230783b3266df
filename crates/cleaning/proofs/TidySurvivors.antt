-- The survivors of a tidy sheet are a tidy sheet, and every group has a row in it exactly where resolving does not refuse by 27.
use mathlib.Core.Path.{◌≡◌, refl, ap, sym, ◌∙◌}
use mathlib.Core.Bool.{Bool, true, false, not, ◌&&◌, beq, false≢true}
use mathlib.Core.Logic.{inl, inr}
use mathlib.Core.List.{List, [], ◌∷◌, ◌++◌, map}
use mathlib.Core.Option.{Option}
use Prim.Native.Nat.{ℕ, zero, suc, ◌+◌, ◌-◌, ◌*◌, ◌≤◌, ◌<◌}
use native.Mathlib.Nat.{mul-le-mul_left}
use native.Mathlib.Omega.{arith}
use lib.Dec.{leb, ltb}
use lib.ListN.{length, get_or}
use borrow.Author.Tests.{ltb-true, lt-ltb, leb-true, le-leb, eq-eqb}
use Rattle.lists.specs.Lists.{flat, filter, part, all, up_from, Each}
use Rattle.lists.specs.Order.{rises_above, rising, level_above, not_falling}
use Rattle.lists.proofs.Tests.{tested, both, all-each, all-of}
use Rattle.lists.proofs.Each.{each-imp, each_both, each_map, each_all, each-flat}
use Rattle.lists.proofs.Filters.{each-filter, filter_passes, each_below}
use Rattle.lists.proofs.Flat.{length-up_from}
use Rattle.lists.proofs.Rising.{rises-lower, rises-rising, level-lower}
use Rattle.columns.specs.Limits.{Served}
use Rattle.columns.specs.Reading.{Label}
use Rattle.columns.specs.Building.{in_file}
use Rattle.cover.specs.Chains.{Link, sort_links}
use Rattle.archive.specs.File.{Unresolved, Root}
use Rattle.cleaning.specs.Source.{is_there}
use Rattle.cleaning.specs.Sheet.{Facts, GroupLink, links_of}
use Rattle.cleaning.specs.Held.{Held, no_facts}
use Rattle.cleaning.specs.Survivors.{keep, rank_in, keep_slots, keep_unresolved, keep_roots, sort_groups, survivor_sheet}
use Rattle.cleaning.specs.Sections.{labels_fit, Tidy}
use Rattle.cleaning.proofs.SheetFacts.{Rows}
use Rattle.cleaning.proofs.GroupLinks.{in_group}
use Rattle.cleaning.proofs.Parts.{length_part, length-wide}
use Rattle.cleaning.proofs.Ranks.{length-keep, each_keep, keep-slots, rank-level, rank_rises, rank_below}

-- ── columns ──────────────────────────────────────────────────────────────────────────────────

pub level-keep : (low : ℕ) (es : List Bool) (xs : List ℕ) → level_above low xs ≡ true → level_above low (keep es xs) ≡ true
unfolding level_above keep
level-keep low [] xs h = refl
level-keep low (b ∷ es) [] h = refl
level-keep low (true ∷ es) (x ∷ xs) h =
    let q = both (leb low x) (level_above x xs) h in
    level-keep low es xs (level-lower low x xs (leb-true low x q.0) q.1)
level-keep low (false ∷ es) (x ∷ xs) h = let q = both (leb low x) (level_above x xs) h in rw q.0 (level-keep x es xs q.1)

all_keep : {A : Type 0} (p : A → Bool) (es : List Bool) (xs : List A) → all p xs ≡ true → all p (keep es xs) ≡ true
all_keep p es xs h = all-of p (keep es xs) (each_keep (λ x. p x ≡ true) es xs (all-each p xs h))

labels-keep : (fs : List Facts) (es : List Bool) (gs : List ℕ) (ls : List (Option Label)) → labels_fit fs gs ls ≡ true
    → labels_fit fs (keep es gs) (keep es ls) ≡ true
unfolding labels_fit keep
labels-keep fs [] gs ls h = refl
labels-keep fs (b ∷ es) [] [] h = refl
labels-keep fs (b ∷ es) [] (l ∷ ls) h = absurd (false≢true h)
labels-keep fs (b ∷ es) (g ∷ gs) [] h = absurd (false≢true h)
labels-keep fs (true ∷ es) (g ∷ gs) (l ∷ ls) h = labels-keep fs es gs ls (both (beq (is_there l) (get_or fs g no_facts).covered) (labels_fit fs gs ls) h).1
labels-keep fs (false ∷ es) (g ∷ gs) (l ∷ ls) h =
    let q = both (beq (is_there l) (get_or fs g no_facts).covered) (labels_fit fs gs ls) h in
    rw q.0 (labels-keep fs es gs ls q.1)

was-not : (b : Bool) → not b ≡ true → b ≡ false
was-not true h = sym h
was-not false h = refl

-- ── records ──────────────────────────────────────────────────────────────────────────────────

module _ (es : List Bool) where
  -- roots past a row that is not erased
  roots-past : (low : ℕ) (rs : List Root) → get_or es low false ≡ false → rises_above low (map (λ r. r.row) rs) ≡ true → Each (λ r. r.row < length es) rs
      → rises_above (rank_in es low) (map (λ r. r.row) (keep_roots es rs)) ≡ true
  unfolding keep_roots filter rises_above
  roots-past low [] s h b = refl
  roots-past low (r ∷ rs) s h b =
      let q = both (ltb low r.row) (rises_above r.row (map (λ r. r.row) rs)) h in
      let l = ltb-true low r.row q.0 in
      elim (tested (get_or es r.row false)) [
        | inl e ↦ rw e (roots-past low rs s (rises-lower low r.row (map (λ r. r.row) rs) (omega arith) q.1) b.1)
        | inr e ↦ rw (e, lt-ltb (rank_in es low) (rank_in es r.row) (rank_rises es low r.row l b.0 s)) (roots-past r.row rs e q.1 b.1)
      ]

  roots_rise : (rs : List Root) → rising (map (λ r. r.row) rs) ≡ true → Each (λ r. r.row < length es) rs
      → rising (map (λ r. r.row) (keep_roots es rs)) ≡ true
  unfolding keep_roots filter rising rises_above
  roots_rise [] h b = refl
  roots_rise (r ∷ rs) h b = elim (tested (get_or es r.row false)) [
    | inl e ↦ rw e (roots_rise rs (rises-rising r.row (map (λ r. r.row) rs) h) b.1)
    | inr e ↦ rw e (roots-past r.row rs e h b.1)
  ]

  children-level : (start low : ℕ) (us : List Unresolved) → level_above low (map (λ u. u.child) us) ≡ true
      → level_above (start + rank_in es (low - start)) (map (λ u. u.child) (keep_unresolved start es us)) ≡ true
  unfolding keep_unresolved filter level_above
  children-level start low [] h = refl
  children-level start low (u ∷ us) h =
      let q = both (leb low u.child) (level_above u.child (map (λ u. u.child) us)) h in
      let l : start + rank_in es (low - start) ≤ start + rank_in es (u.child - start) =
      omega (arith, rank-level es (low - start) (u.child - start) (omega (arith, leb-true low u.child q.0))) in
      let ih = children-level start u.child us q.1 in
      elim (tested (get_or es (u.child - start) false)) [
        | inl e ↦ rw e (level-lower (start + rank_in es (low - start)) (start + rank_in es (u.child - start)) (map (λ u. u.child) (keep_unresolved start es us)) l ih)
        | inr e ↦ rw (e, le-leb (start + rank_in es (low - start)) (start + rank_in es (u.child - start)) l) ih
      ]

  roots_kept : (rs : List Root) → Each (λ r. r.row < length es) rs → Each (λ r. r.row < length (filter not es)) (keep_roots es rs)
  unfolding keep_roots
  roots_kept rs h =
      let p : Root → Bool = λ r. not (get_or es r.row false) in
      each_map (λ r. r.row < length (filter not es)) (λ r. record { row = rank_in es r.row; handle = r.handle }) (filter p rs)
      (each-imp (λ r. (p r ≡ true) × (r.row < length es)) (λ r. rank_in es r.row < length (filter not es)) (filter p rs)
      (λ r q. rank_below es r.row q.1 (was-not (get_or es r.row false) q.0))
      (each_both (λ r. p r ≡ true) (λ r. r.row < length es) (filter p rs) (filter_passes p rs) (each-filter p (λ r. r.row < length es) rs h)))

  children-kept : (start : ℕ) (us : List Unresolved) → Each (λ u. (start ≤ u.child) × (u.child < start + length es)) us
      → Each (λ u. (start ≤ u.child) × (u.child < start + length (filter not es))) (keep_unresolved start es us)
  unfolding keep_unresolved
  children-kept start us h =
      let p : Unresolved → Bool = λ u. not (get_or es (u.child - start) false) in
      let Old : Unresolved → Type 0 = λ u. (start ≤ u.child) × (u.child < start + length es) in
      each_map (λ u. (start ≤ u.child) × (u.child < start + length (filter not es)))
      (λ u. record { child = start + rank_in es (u.child - start); kind = u.kind; handle = u.handle }) (filter p us)
      (each-imp (λ u. (p u ≡ true) × Old u)
      (λ u. (start ≤ start + rank_in es (u.child - start)) × (start + rank_in es (u.child - start) < start + length (filter not es)))
      (filter p us)
      (λ u q. (omega arith, omega (arith, rank_below es (u.child - start) (omega (arith, q.1.0, q.1.1)) (was-not (get_or es (u.child - start) false) q.0))))
      (each_both (λ u. p u ≡ true) Old (filter p us) (filter_passes p us) (each-filter p Old us h)))

-- ── links ────────────────────────────────────────────────────────────────────────────────────

level-block : (g : ℕ) (ls : List Link) (rest : List GroupLink) → level_above g (map (λ l. l.group) rest) ≡ true
    → level_above g (map (λ l. l.group) (in_group g ls ++ rest)) ≡ true
unfolding level_above
level-block g [] rest h = h
level-block g (l ∷ ls) rest h = rw (le-leb g g (omega arith)) (level-block g ls rest h)

module _ (f : ℕ → List Link) where
  level-links : (i n : ℕ) → level_above i (map (λ l. l.group) (flat (λ g. in_group g (f g)) (up_from i n))) ≡ true
  unfolding up_from level_above
  level-links i zero = refl
  level-links i (suc n) =
      let rest = flat (λ g. in_group g (f g)) (up_from (suc i) n) in
      level-block i (f i) rest (level-lower i (suc i) (map (λ l. l.group) rest) (omega arith) (level-links (suc i) n))

  known-links : (n : ℕ) → Each (λ l. ltb l.group n ≡ true) (flat (λ g. in_group g (f g)) (up_from 0 n))
  known-links n =
      each-flat (λ l. ltb l.group n ≡ true) (λ g. in_group g (f g)) (up_from 0 n)
      (each_below _ n (λ g h. each_map (λ l. ltb l.group n ≡ true) (λ l. record { group = g; link = l }) (f g)
      (each_all (λ l. ltb g n ≡ true) (λ l. lt-ltb g n h) (f g))))

-- ── the sheet of the survivors ───────────────────────────────────────────────────────────────

module _ (K : ℕ) (served : Served K) (h : Held) (r : Rows K h) (t : Tidy K h.sheet) (lists : List (List ℕ)) (w : length lists ≡ K * length h.erased) where
  slots_kept : length (keep_slots K h.erased lists) ≡ K * length (filter not h.erased)
  slots_kept =
      let n = length h.erased in
      let f : ℕ → List (List ℕ) = λ i. part (K * i) K lists in
      rw (keep-slots K served h.erased lists)
      (length-wide f K (keep h.erased (up_from 0 n))
      (each_keep (λ i. length (f i) ≡ K) h.erased (up_from 0 n) (each_below _ n (λ i l. length_part (K * i) K lists (omega (arith, w, mul-le-mul_left K l)))))
      ∙ ap (λ m. K * m) (length-keep h.erased (up_from 0 n) (length-up_from 0 n)))

  pub tidy-survivors : Tidy K (survivor_sheet K h lists)
  unfolding survivor_sheet not_falling sort_groups in_file
  tidy-survivors =
      let s = h.sheet in
      let es = h.erased in
      let n = length (filter not es) in
      let rows : length (keep es s.tags) ≡ n = length-keep es s.tags r.tags in
      record {
        each_group = eq-eqb (length (keep es s.row_groups)) (length (keep es s.tags)) (length-keep es s.row_groups r.groups ∙ sym rows);
        each_label = eq-eqb (length (keep es s.labels)) (length (keep es s.tags)) (length-keep es s.labels r.labels ∙ sym rows);
        each_list = eq-eqb (length (keep_slots K es lists)) (K * length (keep es s.tags)) (slots_kept ∙ ap (λ m. K * m) (sym rows));
        group_order = level-keep 0 es s.row_groups t.group_order;
        groups_known = all_keep (λ g. ltb g (length s.groups)) es s.row_groups t.groups_known;
        root_order = roots_rise es s.roots t.root_order r.roots;
        roots_within = all-of (λ x. ltb x.row (length (keep es s.tags))) (keep_roots es s.roots)
            (each-imp (λ x. x.row < n) (λ x. ltb x.row (length (keep es s.tags)) ≡ true) (keep_roots es s.roots)
            (λ x l. lt-ltb x.row (length (keep es s.tags)) (omega arith)) (roots_kept es s.roots r.roots));
        child_order = level-lower 0 (s.start + rank_in es (0 - s.start)) (map (λ u. u.child) (keep_unresolved s.start es s.unresolved)) (omega arith)
            (children-level es s.start 0 s.unresolved t.child_order);
        children_within = all-of (λ u. leb s.start u.child && ltb u.child (s.start + length (keep es s.tags)))
            (keep_unresolved s.start es s.unresolved)
            (each-imp (λ u. (s.start ≤ u.child) × (u.child < s.start + n))
            (λ u. leb s.start u.child && ltb u.child (s.start + length (keep es s.tags)) ≡ true) (keep_unresolved s.start es s.unresolved)
            (λ u l. rw (le-leb s.start u.child l.0) (lt-ltb u.child (s.start + length (keep es s.tags)) (omega (arith, l.1))))
            (children-kept es s.start s.unresolved r.unresolved));
        link_order = level-links (λ g. sort_links (links_of s.links g)) 0 (length s.groups);
        links_known = all-of (λ l. ltb l.group (length s.groups)) (sort_groups (length s.groups) s.links)
            (known-links (λ g. sort_links (links_of s.links g)) (length s.groups));
        labelled = labels-keep s.groups es s.row_groups s.labels t.labelled;
      }
