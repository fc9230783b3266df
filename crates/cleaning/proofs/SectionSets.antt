-- The sets of a group's file out of the lists of all rows and of all children. Parents are earlier, so that rows before the group name none of its
-- numbers: its reverse lists are the children below its end, and its inbound lists the children from its end on.
use mathlib.Core.Path.{◌≡◌, refl, ap, ap₂, sym, ◌∙◌}
use mathlib.Core.Bool.{Bool, true, false, ◌&&◌}
use mathlib.Core.Logic.{inl, inr}
use mathlib.Core.List.{List, [], ◌∷◌, ◌++◌, map, map-append, append-nil}
use mathlib.Core.Option.{none}
use Prim.Native.Nat.{ℕ, zero, suc, ◌+◌, ◌-◌, ◌*◌, ◌≤◌, ◌<◌}
use native.Mathlib.Omega.{arith}
use native.Mathlib.Nat.{add-zero, mul-le-mul_left, mul-zero}
use lib.Dec.{leb}
use lib.ListN.{length, length-take, length-drop}
use lib.Seq.{take_all}
use borrow.Author.Tests.{le-ltb, leb-true}
use Rattle.lists.specs.Lists.{flat, filter, joined, mem, all, part, up_from, Each}
use Rattle.lists.specs.Order.{level_above, not_falling, insert, sort}
use Rattle.lists.proofs.Tests.{tested, both}
use Rattle.lists.proofs.Each.{each_append, each-flat, each-imp}
use Rattle.lists.proofs.Pairs.{each-up_from}
use Rattle.lists.proofs.Flat.{flat-ext, flat_map, up_from-append, length-joined}
use Rattle.lists.proofs.Filters.{each-filter, filter_none, filter-all, filter-append}
use Rattle.lists.proofs.Rising.{filter-rising, up_from-rising, rising-level}
use Rattle.columns.specs.Limits.{Served, end64}
use Rattle.columns.specs.EdgeSet.{set_of}
use Rattle.columns.specs.Questions.{list_of}
use Rattle.columns.specs.Building.{in_file, slot_rules, children_to, slot_table, naming, reverse_lists, inbound_lists, forward_part, reverse_part, inbound_part, granule_start, built_of, within}
use Rattle.columns.proofs.ReadBack.{cut-joined}
use Rattle.columns.proofs.Turned.{length-table, each-table}
use Rattle.cleaning.specs.Sheet.{Sheet, row_count, parents_at}
use Rattle.cleaning.specs.Writing.{inbound_columns}
use Rattle.cleaning.specs.Sections.{Tidy, section_start, section_rows, section_first, section_end, sheet_end, section_lists, row_edges, other_rows, section_edges}
use Rattle.cleaning.specs.Sections.{child_lists, section_children, section_graph}
use Rattle.cleaning.proofs.Groups.{others-not-mem}
use Rattle.cleaning.proofs.Parts.{length_part, parts_from}
use Rattle.cleaning.proofs.Offsets.{joined-part}
use Rattle.cleaning.proofs.Turnings.{reverse-entries}
use Rattle.cleaning.proofs.EdgesOnce.{only, children_of, children-to, children-flat, one-child}
use Rattle.cleaning.proofs.RowRules.{in-file, before-file, past-file}
use Rattle.cleaning.proofs.SheetRows.{section-end, section-within}
use Rattle.cleaning.proofs.SlotTables.{table-part, map-table, table-ext, list-part}
use Rattle.cleaning.proofs.SheetLists.{all-lists, row_list, row-good, list_below}
use Rattle.cleaning.proofs.Within.{length-within, within_all, counts-add}

-- ── numbers that pass a test ─────────────────────────────────────────────────────────────────

filter-ext : {A : Type 0} (p q : A → Bool) (xs : List A) → Each (λ x. p x ≡ q x) xs → filter p xs ≡ filter q xs
unfolding filter
filter-ext p q [] h = refl
filter-ext p q (x ∷ xs) h = rw (h.0, filter-ext p q xs h.1)

filter-only : (p : ℕ → Bool) (xs : List ℕ) → flat (λ n. only (p n) n) xs ≡ filter p xs
unfolding filter
filter-only p [] = refl
filter-only p (x ∷ xs) = elim (tested (p x)) [ inl e ↦ rw (e, filter-only p xs) | inr e ↦ rw e (filter-only p xs) ]

map-plus : (a i n : ℕ) → map (λ j. a + j) (up_from i n) ≡ up_from (a + i) n
unfolding up_from
map-plus a i zero = refl
map-plus a i (suc n) = let e : a + suc i ≡ suc (a + i) = omega arith in ap (λ xs. (a + i) ∷ xs) (map-plus a (suc i) n ∙ ap (λ j. up_from j n) e)

-- numbers in order stay as they are sorted
insert-first : (x : ℕ) (ys : List ℕ) → level_above x ys ≡ true → insert x ys ≡ x ∷ ys
unfolding insert level_above
insert-first x [] h = refl
insert-first x (y ∷ ys) h = rw (le-ltb y x (leb-true x y (both (leb x y) (level_above y ys) h).0))

sort-above : (low : ℕ) (xs : List ℕ) → level_above low xs ≡ true → sort xs ≡ xs
unfolding sort level_above
sort-above low [] h = refl
sort-above low (x ∷ xs) h = let q = both (leb low x) (level_above x xs) h in rw (sort-above x xs q.1) (insert-first x xs q.1)

sort-same : (xs : List ℕ) → not_falling xs ≡ true → sort xs ≡ xs
unfolding not_falling
sort-same xs h = sort-above 0 xs h

-- of two lists the one whose numbers pass
module _ (q : ℕ → Bool) (xs ys : List ℕ) where
  filter-left : Each (λ n. q n ≡ true) xs → Each (λ n. q n ≡ false) ys → filter q (xs ++ ys) ≡ xs
  filter-left h g = filter-append q xs ys ∙ ap₂ ◌++◌ (filter-all q xs h) (filter_none q ys g) ∙ append-nil xs

  filter-right : Each (λ n. q n ≡ false) xs → Each (λ n. q n ≡ true) ys → filter q (xs ++ ys) ≡ ys
  filter-right h g = filter-append q xs ys ∙ ap₂ ◌++◌ (filter_none q xs h) (filter-all q ys g)

-- ── the rows that name a number ──────────────────────────────────────────────────────────────

-- whether the list of a kind of a number names x
abbrev names : (K : ℕ) → Sheet → ℕ → ℕ → ℕ → Bool
names K s x k n = mem x (list_of K s.start s.lists k n)

-- how many rows follow a group's
abbrev rows_after : Sheet → ℕ → ℕ
rows_after s g = row_count s - section_start s (suc g)

module _ (K : ℕ) (served : Served K) (s : Sheet) (t : Tidy K s) (g : ℕ) where
  -- all numbers: those before a group's, the group's, those after them
  numbers-section : up_from s.start (row_count s) ≡ up_from s.start (section_start s g) ++ (up_from (section_first s g) (section_rows s g) ++ up_from (section_end s g) (rows_after s g))
  numbers-section =
      let a = section_start s g in
      let n = section_rows s g in
      let m = rows_after s g in
      let e : row_count s ≡ a + (n + m) = omega (arith, section-end K served s t g, section-within K served s t g) in
      let f : section_first s g + n ≡ section_end s g = omega (arith, section-end K served s t g) in
      ap (up_from s.start) e ∙ up_from-append s.start a (n + m) ∙ ap (λ xs. up_from s.start a ++ xs) (up_from-append (section_first s g) n m)
      ∙ ap (λ i. up_from s.start a ++ (up_from (section_first s g) n ++ up_from i m)) f

  -- what holds of the group's numbers, and of those after them
  own-numbers : (P : ℕ → Type 0) → ((n : ℕ) → section_first s g ≤ n → n < section_end s g → P n) → Each P (up_from (section_first s g) (section_rows s g))
  own-numbers P f =
      each-imp (λ n. (section_first s g ≤ n) × (n < section_first s g + section_rows s g)) P (up_from (section_first s g) (section_rows s g))
      (λ n w. f n w.0 (omega (arith, w.1, section-end K served s t g))) (each-up_from (section_first s g) (section_rows s g))

  later-numbers : (P : ℕ → Type 0) → ((n : ℕ) → section_end s g ≤ n → n < s.start + row_count s → P n) → Each P (up_from (section_end s g) (rows_after s g))
  later-numbers P f =
      each-imp (λ n. (section_end s g ≤ n) × (n < section_end s g + rows_after s g)) P (up_from (section_end s g) (rows_after s g))
      (λ n w. f n w.0 (omega (arith, w.1, section-within K served s t g))) (each-up_from (section_end s g) (rows_after s g))

  -- a row of another group is not between the group's
  pub others-outside : Each (λ i. (i < row_count s) × (section_start s g ≤ i → section_start s (suc g) ≤ i)) (other_rows s g)
  unfolding other_rows
  others-outside =
      let a = section_start s g in
      let b = section_start s (suc g) in
      let P : ℕ → Type 0 = λ i. (i < row_count s) × (a ≤ i → b ≤ i) in
      each_append P (up_from 0 a) (up_from b (rows_after s g))
      (each-imp (λ i. (0 ≤ i) × (i < 0 + a)) P (up_from 0 a)
      (λ i w. (omega (arith, w.1, section-end K served s t g, section-within K served s t g), λ l. absurd (omega (arith, w.1)))) (each-up_from 0 a))
      (each-imp (λ i. (b ≤ i) × (i < b + rows_after s g)) P (up_from b (rows_after s g))
      (λ i w. (omega (arith, w.1, section-within K served s t g), λ l. w.0)) (each-up_from b (rows_after s g)))

  -- the children of a group's rows, as a table of their numbers
  pub children-section : section_children K s g ≡ slot_table K (naming K s.start (row_count s) s.lists) (section_first s g) (section_rows s g)
  unfolding child_lists reverse_lists
  children-section =
      table-part K served (naming K s.start (row_count s) s.lists) s.start (section_start s g) (section_rows s g) (row_count s)
      (omega (arith, section-end K served s t g, section-within K served s t g))

  pub within-section : (low high : ℕ)
      → within low high (section_children K s g)
      ≡ slot_table K (λ x k. filter (in_file low high) (naming K s.start (row_count s) s.lists x k)) (section_first s g) (section_rows s g)
  unfolding within
  within-section low high =
      ap (map (filter (in_file low high))) children-section
      ∙ map-table K served (naming K s.start (row_count s) s.lists) (filter (in_file low high)) (section_first s g) (section_rows s g)

  module _ (e : slot_rules K s.start 0 s.lists ≡ none) (x k : ℕ) (l : section_first s g ≤ x) (j : k < K) where
    none_before : filter (names K s x k) (up_from s.start (section_start s g)) ≡ []
    none_before =
        filter_none (names K s x k) (up_from s.start (section_start s g))
        (each-imp (λ n. (s.start ≤ n) × (n < s.start + section_start s g)) (λ n. names K s x k n ≡ false) (up_from s.start (section_start s g))
        (λ n w. let b : n < s.start + row_count s = omega (arith, w.1, section-end K served s t g, section-within K served s t g) in
        others-not-mem x (list_of K s.start s.lists k n)
        (each-imp (λ p. p < n) (λ p. x ≡ p → ⊥) (list_of K s.start s.lists k n) (λ p b d. omega (arith, w.1)) (list_below K served s t e n k w.0 b j)))
        (each-up_from s.start (section_start s g)))

    -- the children of a number of the group: its own rows, then later ones
    naming-section : naming K s.start (row_count s) s.lists x k
        ≡ filter (names K s x k) (up_from (section_first s g) (section_rows s g)) ++ filter (names K s x k) (up_from (section_end s g) (rows_after s g))
    unfolding naming
    naming-section =
        let own = up_from (section_first s g) (section_rows s g) in
        let after = up_from (section_end s g) (rows_after s g) in
        rw (numbers-section, filter-append (names K s x k) (up_from s.start (section_start s g)) (own ++ after), none_before) (filter-append (names K s x k) own after)

    -- those below the group's end: the group's own rows that name the number
    own-children : filter (in_file 0 (section_end s g)) (naming K s.start (row_count s) s.lists x k) ≡ naming K (section_first s g) (section_rows s g) (section_lists K s g) x k
    unfolding naming
    own-children =
        let p = names K s x k in
        let q = in_file 0 (section_end s g) in
        let own = up_from (section_first s g) (section_rows s g) in
        let after = up_from (section_end s g) (rows_after s g) in
        ap (filter q) naming-section
        ∙ filter-left q (filter p own) (filter p after)
        (each-filter p (λ n. q n ≡ true) own (own-numbers (λ n. q n ≡ true) (λ n a b. in-file 0 (section_end s g) n (omega arith) b)))
        (each-filter p (λ n. q n ≡ false) after (later-numbers (λ n. q n ≡ false) (λ n a b. past-file 0 (section_end s g) n a)))
        ∙ filter-ext p (λ n. mem x (list_of K (section_first s g) (section_lists K s g) k n)) own
        (own-numbers (λ n. p n ≡ mem x (list_of K (section_first s g) (section_lists K s g) k n))
        (λ n a b. ap (mem x) (sym (list-part K served s.start (section_start s g) (section_rows s g) s.lists k n j a (omega (arith, section-end K served s t g))))))

    -- those from the group's end on: later rows that name the number
    later-children : s.start + row_count s < end64
        → filter (in_file (section_end s g) (sheet_end s)) (naming K s.start (row_count s) s.lists x k) ≡ filter (names K s x k) (up_from (section_end s g) (rows_after s g))
    later-children r =
        let p = names K s x k in
        let q = in_file (section_end s g) (sheet_end s) in
        let own = up_from (section_first s g) (section_rows s g) in
        let after = up_from (section_end s g) (rows_after s g) in
        ap (filter q) naming-section
        ∙ filter-right q (filter p own) (filter p after)
        (each-filter p (λ n. q n ≡ false) own (own-numbers (λ n. q n ≡ false) (λ n a b. before-file (section_end s g) (sheet_end s) n b)))
        (each-filter p (λ n. q n ≡ true) after (later-numbers (λ n. q n ≡ true) (λ n a b. in-file (section_end s g) (sheet_end s) n a (omega arith))))

    -- the edges of other rows to the number are those of later rows that name it
    edge-children : x < section_end s g → children_of x k (section_edges K s g) ≡ filter (names K s x k) (up_from (section_end s g) (rows_after s g))
    unfolding row_edges other_rows
    edge-children h =
        let first = section_first s g in
        let end = section_end s g in
        let before = up_from 0 (section_start s g) in
        let after = up_from (section_start s (suc g)) (rows_after s g) in
        children-flat x k (row_edges K s first end) (other_rows s g)
        ∙ flat-ext (λ i. children_of x k (row_edges K s first end i)) (λ i. only (names K s x k (s.start + i)) (s.start + i)) (other_rows s g)
        (each-imp (λ i. (i < row_count s) × (section_start s g ≤ i → section_start s (suc g) ≤ i))
        (λ i. children_of x k (row_edges K s first end i) ≡ only (names K s x k (s.start + i)) (s.start + i)) (other_rows s g)
        (λ i w. one-child x k first end (s.start + i) (parents_at K s i) (row-good K served s t e i w.0).once
        ∙ ap₂ (λ b ps. only (b && mem x ps) (s.start + i)) (in-file first end x l h) (row_list K served s t i k j)) others-outside)
        ∙ sym (flat_map (λ n. only (names K s x k n) n) (λ i. s.start + i) (other_rows s g))
        ∙ filter-only (names K s x k) (map (λ i. s.start + i) (other_rows s g))
        ∙ ap (filter (names K s x k))
        (map-append (λ i. s.start + i) before after ∙ ap₂ ◌++◌ (map-plus s.start 0 (section_start s g)) (map-plus s.start (section_start s (suc g)) (rows_after s g)))
        ∙ filter-append (names K s x k) (up_from (s.start + 0) (section_start s g)) (up_from end (rows_after s g))
        ∙ ap (λ xs. xs ++ filter (names K s x k) (up_from end (rows_after s g)))
        (ap (λ i. filter (names K s x k) (up_from i (section_start s g))) (add-zero s.start) ∙ none_before)

    -- they rise, so that sorting leaves them
    sorted-children : x < section_end s g
        → sort (children_to x k (map (λ e. e.child) (section_edges K s g)) (map (λ e. e.parent) (section_edges K s g)) (map (λ e. e.kind) (section_edges K s g)))
        ≡ filter (names K s x k) (up_from (section_end s g) (rows_after s g))
    sorted-children h =
        let later = filter (names K s x k) (up_from (section_end s g) (rows_after s g)) in
        ap sort (children-to x k (section_edges K s g) ∙ edge-children h)
        ∙ sort-same later (rising-level later (filter-rising (names K s x k) (up_from (section_end s g) (rows_after s g)) (up_from-rising (section_end s g) (rows_after s g))))

-- ── the lists of a group's file ──────────────────────────────────────────────────────────────

module _ (K : ℕ) (served : Served K) (s : Sheet) (t : Tidy K s) (g : ℕ) (e : slot_rules K s.start 0 s.lists ≡ none) where
  pub reverse-section : reverse_lists K (section_first s g) (section_rows s g) (section_lists K s g) ≡ within 0 (section_end s g) (section_children K s g)
  unfolding reverse_lists
  reverse-section =
      sym (within-section K served s t g 0 (section_end s g)
      ∙ table-ext K served (λ x k. filter (in_file 0 (section_end s g)) (naming K s.start (row_count s) s.lists x k))
      (naming K (section_first s g) (section_rows s g) (section_lists K s g)) (section_first s g) (section_rows s g) (λ x k l h j. own-children K served s t g e x k l j))

  module _ (r : s.start + row_count s < end64) where
    pub inbound-section : inbound_lists K (section_first s g) (section_rows s g) (inbound_columns (section_edges K s g)) ≡ within (section_end s g) (sheet_end s) (section_children K s g)
    unfolding inbound_lists inbound_columns
    inbound-section =
        let es = section_edges K s g in
        let f : ℕ → ℕ → List ℕ = λ x k. sort (children_to x k (map (λ e. e.child) es) (map (λ e. e.parent) es) (map (λ e. e.kind) es)) in
        let c : ℕ → ℕ → List ℕ = λ x k. filter (in_file (section_end s g) (sheet_end s)) (naming K s.start (row_count s) s.lists x k) in
        table-ext K served f c (section_first s g) (section_rows s g)
        (λ x k l h j. sorted-children K served s t g e x k l j (omega (arith, section-end K served s t g)) ∙ sym (later-children K served s t g e x k l j r))
        ∙ sym (within-section K served s t g (section_end s g) (sheet_end s))

    -- all parents are numbers of 64 bits
    pub lists-within : within 0 (sheet_end s) (section_lists K s g) ≡ section_lists K s g
    unfolding parents_at
    lists-within =
        let a = section_start s g in
        let n = section_rows s g in
        within_all K served 0 (sheet_end s) (section_lists K s g)
        (rw (← parts_from K s.lists a n)
        (each-flat (λ ps. Each (λ p. (0 ≤ p) × (p < (sheet_end s))) ps) (λ i. part (K * i) K s.lists) (up_from a n)
        (each-imp (λ i. (a ≤ i) × (i < a + n)) (λ i. Each (λ ps. Each (λ p. (0 ≤ p) × (p < (sheet_end s))) ps) (part (K * i) K s.lists)) (up_from a n)
        (λ i w. below i (omega (arith, w.1, section-end K served s t g, section-within K served s t g))) (each-up_from a n))))
      where
        below : (i : ℕ) → i < row_count s → Each (λ ps. Each (λ p. (0 ≤ p) × (p < (sheet_end s))) ps) (part (K * i) K s.lists)
        below i l =
            each-imp (λ ps. Each (λ p. p < s.start + i) ps) (λ ps. Each (λ p. (0 ≤ p) × (p < (sheet_end s))) ps) (parents_at K s i)
            (λ ps h. each-imp (λ p. p < s.start + i) (λ p. (0 ≤ p) × (p < (sheet_end s))) ps (λ p b. (omega arith, omega arith)) h) (row-good K served s t e i l).below

    -- so are all children
    pub children-fit : Each (λ cs. Each (λ c. c < (sheet_end s)) cs) (section_children K s g)
    unfolding naming
    children-fit =
        rw (children-section K served s t g)
        (each-table K (naming K s.start (row_count s) s.lists) (section_first s g) (section_rows s g) (λ cs. Each (λ c. c < (sheet_end s)) cs)
        (λ x k. each-filter (names K s x k) (λ c. c < (sheet_end s)) (up_from s.start (row_count s))
        (each-imp (λ c. (s.start ≤ c) × (c < s.start + row_count s)) (λ c. c < (sheet_end s)) (up_from s.start (row_count s))
        (λ c w. omega (arith, w.1)) (each-up_from s.start (row_count s)))))

-- ── sizes ────────────────────────────────────────────────────────────────────────────────────

module _ (K : ℕ) (served : Served K) (s : Sheet) (t : Tidy K s) (g : ℕ) where
  rows_within : section_start s g + section_rows s g ≤ row_count s
  rows_within = omega (arith, section-end K served s t g, section-within K served s t g)

  pub lists_length : length (section_lists K s g) ≡ K * section_rows s g
  lists_length =
      length_part (K * section_start s g) (K * section_rows s g) s.lists (omega (arith, all-lists K served s t, mul-le-mul_left K rows_within))

  pub children-length : length (section_children K s g) ≡ K * section_rows s g
  children-length =
      ap length (children-section K served s t g) ∙ length-table K (naming K s.start (row_count s) s.lists) (section_first s g) (section_rows s g)

  -- the children below the group's end and those from it on are all
  pub children-counted : slot_rules K s.start 0 s.lists ≡ none → s.start + row_count s < end64
      → length (joined (within 0 (section_end s g) (section_children K s g))) + length (joined (within (section_end s g) (sheet_end s) (section_children K s g)))
      ≡ length (joined (section_children K s g))
  children-counted e r = counts-add K served (section_end s g) (sheet_end s) (section_children K s g) (children-fit K served s t g e r)

  -- a group's children are some of all
  pub children-fewer : length (joined (section_children K s g)) ≤ length (joined (child_lists K s))
  unfolding part child_lists reverse_lists
  children-fewer =
      let all = slot_table K (naming K s.start (row_count s) s.lists) s.start (row_count s) in
      let inside : K * section_start s g + K * section_rows s g ≤ length all =
      omega (arith, length-table K (naming K s.start (row_count s) s.lists) s.start (row_count s), mul-le-mul_left K rows_within) in
      rw (joined-part (K * section_start s g) (K * section_rows s g) all inside) (simp (length-take, length-drop) (omega arith))

-- all children are no more than all parents
pub children-few : (K : ℕ) (served : Served K) (s : Sheet) → Tidy K s → length (joined (child_lists K s)) ≤ length (joined s.lists)
unfolding child_lists
children-few K served s t =
    let turned = reverse_lists K s.start (row_count s) s.lists in
    omega (arith, length-joined turned, length-joined s.lists, reverse-entries K served s.start (row_count s) s.lists (all-lists K served s t))

-- ── the sets ─────────────────────────────────────────────────────────────────────────────────

module _ (K : ℕ) (served : Served K) (s : Sheet) (t : Tidy K s) (g : ℕ) where
  pub starts-section : granule_start (section_graph K s g) ≡ section_first s g
  unfolding section_graph
  starts-section = add-zero (section_first s g)

  pub section-forward : forward_part K (section_graph K s g) ≡ section_lists K s g
  unfolding forward_part section_graph part
  section-forward = rw (cut-joined (section_lists K s g), mul-zero K) (take_all (K * section_rows s g) (section_lists K s g) (omega (arith, lists_length K served s t g)))

  module _ (e : slot_rules K s.start 0 s.lists ≡ none) where
    pub section-reverse : reverse_part K (section_graph K s g) ≡ within 0 (section_end s g) (section_children K s g)
    unfolding reverse_part section_graph part
    section-reverse =
        rw (cut-joined (section_lists K s g), reverse-section K served s t g e, mul-zero K)
        (take_all (K * section_rows s g) (within 0 (section_end s g) (section_children K s g))
        (omega (arith, length-within K served 0 (section_end s g) (section_children K s g), children-length K served s t g)))

    module _ (r : s.start + row_count s < end64) where
      pub section-inbound : inbound_part K (section_graph K s g) ≡ within (section_end s g) (sheet_end s) (section_children K s g)
      unfolding inbound_part section_graph part
      section-inbound =
          rw (inbound-section K served s t g e r, mul-zero K)
          (take_all (K * section_rows s g) (within (section_end s g) (sheet_end s) (section_children K s g))
          (omega (arith, length-within K served (section_end s g) (sheet_end s) (section_children K s g), children-length K served s t g)))

      pub section-built : built_of K (section_graph K s g) ≡ record {
        forward = set_of K (section_first s g) (within 0 (sheet_end s) (section_lists K s g));
        reverse = set_of K (section_first s g) (within 0 (section_end s g) (section_children K s g));
        inbound = set_of K (section_first s g) (within (section_end s g) (sheet_end s) (section_children K s g));
      }
      unfolding built_of
      section-built =
          let first = starts-section in
          let forward = section-forward ∙ sym (lists-within K served s t g e r) in
          λ i. record { forward = set_of K (first i) (forward i); reverse = set_of K (first i) (section-reverse i); inbound = set_of K (first i) (section-inbound i) }
