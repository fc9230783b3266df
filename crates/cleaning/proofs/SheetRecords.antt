-- The records of a group in a tidy sheet stand together: unresolved references, state roots and links are parts of the sheet's.
use mathlib.Core.Path.{◌≡◌, refl, ap, ap₂, sym, ◌∙◌}
use mathlib.Core.Bool.{true, cond}
use mathlib.Core.Logic.{inl, inr}
use mathlib.Core.List.{List, [], ◌∷◌, ◌++◌, map}
use mathlib.Core.Option.{none, some}
use Prim.Native.Nat.{ℕ, zero, suc, ◌+◌, ◌-◌, ◌≤◌, ◌<◌}
use native.Mathlib.Omega.{arith}
use native.Mathlib.Nat.{not-suc-le-zero, le_of_suc-le-suc, zero-add, add-zero}
use lib.Dec.{eqb, ltb}
use lib.ListN.{length, get_or}
use borrow.Author.Tests.{eqb-true, ne_eqb, ltb-true}
use Rattle.columns.specs.Limits.{Served}
use Rattle.lists.specs.Lists.{flat, filter, up_from}
use Rattle.lists.specs.Order.{rises_above, rising}
use Rattle.lists.proofs.Tests.{tested, both}
use Rattle.lists.proofs.Each.{each_all}
use Rattle.lists.proofs.Flat.{flat-ext, map-flat, flat_map}
use Rattle.lists.proofs.Rising.{rises-rising, rising-level}
use Rattle.archive.specs.File.{Unresolved, Root}
use Rattle.cleaning.specs.Archive.{root_in, references_in}
use Rattle.cleaning.specs.Sheet.{Facts, GroupLink, Sheet, body_at, links_of, groups_from, groups_of_sheet, summary_of}
use Rattle.cleaning.specs.Writing.{rows_in, unresolved_of, root_of, roots_from, no_group, group_at}
use Rattle.cleaning.specs.Held.{no_facts}
use Rattle.cleaning.specs.Sections.{Tidy, facts_of, between, section_start, section_rows, section_first, section_unresolved, section_roots, section_links}
use Rattle.cleaning.proofs.Places.{range-one, ranges-follow}
use Rattle.cleaning.proofs.SheetRows.{row_at, rows-section, section-end}

-- ── unresolved references ────────────────────────────────────────────────────────────────────

-- a number's references as records of it are its records
own-records : (n : ℕ) (us : List Unresolved)
    → map (λ v. record { child = n; kind = v.kind; handle = v.handle }) (references_in us n) ≡ filter (λ u. eqb u.child n) us
unfolding references_in filter
own-records n [] = refl
own-records n (u ∷ us) = elim (tested (eqb u.child n)) [
  | inl e ↦ let q : n ≡ u.child = sym (eqb-true u.child n e) in
      rw e (ap₂ (λ x xs. x ∷ xs) (λ k. record { child = q k; kind = u.kind; handle = u.handle }) (own-records n us))
  | inr e ↦ rw e (own-records n us)
]

module _ (K : ℕ) (served : Served K) (s : Sheet) (t : Tidy K s) (g : ℕ) where
  pub unresolved-section : flat unresolved_of (rows_in (summary_of K s) g) ≡ section_unresolved s g
  unfolding unresolved_of body_at
  unresolved-section =
      let a = section_start s g in
      let n = section_rows s g in
      let f : ℕ → List Unresolved = λ i. unresolved_of (row_at K s i) in
      let c : ℕ → List Unresolved = λ i. between (λ u. u.child) (s.start + i) (suc (s.start + i)) s.unresolved in
      ap (flat unresolved_of) (rows-section K served s t g) ∙ flat_map unresolved_of (row_at K s) (up_from a n)
      ∙ flat-ext f c (up_from a n)
      (each_all (λ i. f i ≡ c i)
      (λ i. own-records (s.start + i) s.unresolved ∙ range-one (λ u. u.child) (s.start + i) s.unresolved t.child_order) (up_from a n))
      ∙ ranges-follow (λ u. u.child) s.start s.unresolved a n
      ∙ ap (λ b. between (λ u. u.child) (section_first s g) (s.start + b) s.unresolved) (section-end K served s t g)

-- ── state roots ──────────────────────────────────────────────────────────────────────────────

-- a root with its row counted from row a on
abbrev less_by : ℕ → Root → Root
less_by a r = record { row = r.row - a; handle = r.handle }

-- rows past another are not that one
rows-past : (low i : ℕ) (rs : List Root) → rises_above low (map (λ r. r.row) rs) ≡ true → i ≤ low → filter (λ r. eqb r.row i) rs ≡ []
unfolding rises_above filter
rows-past low i [] h l = refl
rows-past low i (r ∷ rs) h l =
    let q = both (ltb low r.row) (rises_above r.row (map (λ r. r.row) rs)) h in
    let m = ltb-true low r.row q.0 in
    rw (ne_eqb r.row i (omega arith)) (rows-past r.row i rs q.1 (omega arith))

-- the root of a row is the one record of it
own_root : (a i : ℕ) (rs : List Root) → rising (map (λ r. r.row) rs) ≡ true
    → root_of (i - a) (root_in rs i) ≡ map (less_by a) (filter (λ r. eqb r.row i) rs)
unfolding rising root_in filter
own_root a i [] h = refl
own_root a i (r ∷ rs) h = elim (tested (eqb r.row i)) [
  | inl e ↦ let q = eqb-true r.row i e in
      rw (e, rows-past r.row i rs h (omega arith)) (ap (λ j. record { row = j - a; handle = r.handle } ∷ []) (sym q))
  | inr e ↦ rw e (own_root a i rs (rises-rising r.row (map (λ r. r.row) rs) h))
]

roots-places : (K : ℕ) (served : Served K) (s : Sheet) (a j n : ℕ) → roots_from j (map (row_at K s) (up_from (a + j) n)) ≡ flat (λ i. root_of (i - a) (root_in s.roots i)) (up_from (a + j) n)
unfolding roots_from up_from body_at
roots-places K served s a j zero = refl
roots-places K served s a j (suc n) =
    let e : suc (a + j) ≡ a + suc j = omega arith in
    let d : a + j - a ≡ j = omega arith in
    rw (e, d) (ap (λ rs. root_of j (root_in s.roots (a + j)) ++ rs) (roots-places K served s a (suc j) n))

module _ (K : ℕ) (served : Served K) (s : Sheet) (t : Tidy K s) (g : ℕ) where
  pub roots-section : roots_from 0 (rows_in (summary_of K s) g) ≡ section_roots s g
  roots-section =
      let a = section_start s g in
      let n = section_rows s g in
      let f : ℕ → List Root = λ i. root_of (i - a) (root_in s.roots i) in
      let c : ℕ → List Root = λ i. between (λ r. r.row) (0 + i) (suc (0 + i)) s.roots in
      ap (roots_from 0) (rows-section K served s t g)
      ∙ ap (λ i. roots_from 0 (map (row_at K s) (up_from i n))) (sym (add-zero a))
      ∙ roots-places K served s a 0 n
      ∙ ap (λ i. flat f (up_from i n)) (add-zero a)
      ∙ flat-ext f (λ i. map (less_by a) (c i)) (up_from a n)
      (each_all (λ i. f i ≡ map (less_by a) (c i))
      (λ i. own_root a i s.roots t.root_order
      ∙ ap (map (less_by a)) (range-one (λ r. r.row) i s.roots (rising-level (map (λ r. r.row) s.roots) t.root_order)
      ∙ ap (λ k. between (λ r. r.row) k (suc k) s.roots) (sym (zero-add i)))) (up_from a n))
      ∙ sym (map-flat (less_by a) c (up_from a n))
      ∙ ap (map (less_by a)) (ranges-follow (λ r. r.row) 0 s.roots a n
      ∙ ap₂ (λ i j. between (λ r. r.row) i j s.roots) (zero-add a) (zero-add (a + n) ∙ section-end K served s t g))

-- ── groups ───────────────────────────────────────────────────────────────────────────────────

group-from : (ls : List GroupLink) (i j : ℕ) (fs : List Facts) → j < length fs
    → get_or (groups_from ls i fs) j no_group
    ≡ record { depth = (get_or fs j no_facts).depth; links = cond (get_or fs j no_facts).covered (some (links_of ls (i + j))) none }
unfolding groups_from
group-from ls i j [] l = absurd (not-suc-le-zero l)
group-from ls i zero (f ∷ fs) l = rw (add-zero i)
group-from ls i (suc j) (f ∷ fs) l = let e : i + suc j ≡ 1 + i + j = omega arith in rw e (group-from ls (1 + i) j fs (le_of_suc-le-suc l))

module _ (K : ℕ) (served : Served K) (s : Sheet) (t : Tidy K s) (g : ℕ) (l : g < length s.groups) where
  pub group-section : group_at (summary_of K s) g ≡ record { depth = (facts_of s g).depth; links = cond (facts_of s g).covered (some (section_links s g)) none }
  unfolding summary_of groups_of_sheet links_of
  group-section =
      group-from s.links 0 g s.groups l
      ∙ ap (λ ls. record { depth = (facts_of s g).depth; links = cond (facts_of s g).covered (some ls) none })
      (ap (links_of s.links) (zero-add g) ∙ ap (map (λ l. l.link)) (range-one (λ l. l.group) g s.links t.link_order))
