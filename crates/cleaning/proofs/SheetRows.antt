-- The rows of a group in a tidy sheet stand together: their numbers, tags, labels and lists are parts of the sheet's columns.
use mathlib.Core.Path.{◌≡◌, refl, ap, ap₂, sym, ◌∙◌}
use mathlib.Core.Bool.{true, not}
use mathlib.Core.List.{◌∷◌, ◌++◌, map, map-map}
use mathlib.Core.Option.{none}
use Prim.Native.Nat.{ℕ, zero, suc, ◌+◌, ◌-◌, ◌*◌, ◌≤◌, ◌<◌}
use native.Mathlib.Omega.{arith}
use native.Mathlib.Nat.{not-suc-le-zero, zero-add, add-zero, mul-le-mul_left}
use lib.Dec.{eqb}
use lib.ListN.{length, get_or, take, drop}
use borrow.Author.Tests.{eqb-true}
use Rattle.lists.specs.Lists.{flat, joined, starts, filter, part, up_from}
use Rattle.lists.specs.Order.{not_falling}
use Rattle.lists.proofs.Each.{each-get_or}
use Rattle.lists.proofs.Flat.{length-up_from, length-map-up_from, get_or-up_from, flat_map}
use Rattle.lists.proofs.Filters.{filter_passes, map-places}
use Rattle.columns.specs.Limits.{Served}
use Rattle.cleaning.specs.Summary.{Kept, kept}
use Rattle.cleaning.specs.Sheet.{Sheet, row_count, body_at, parents_at, summary_of}
use Rattle.cleaning.specs.Writing.{Numbered, numbered_from, numbered, group_is, rows_in, first_number, label_list, labels_in, slots_of_rows}
use Rattle.cleaning.specs.Sections.{Tidy, place, between, section_start, section_rows, section_first, section_tags, section_lists, section_labels, other_rows}
use Rattle.cleaning.proofs.Parts.{parts_from, take-up_from, drop-up_from, part-up_from, map-part, filter_map}
use Rattle.cleaning.proofs.Offsets.{starts-part, joined-part}
use Rattle.cleaning.proofs.Places.{place-within, place-rises, range-one, outside-one}

-- the i-th row under its number
abbrev pub row_at : (K : ℕ) → Sheet → ℕ → Numbered
row_at K s i = record { number = s.start + i; row = kept (body_at s i) (parents_at K s i) }

numbered-places : (start : ℕ) (f : ℕ → Kept) (i n : ℕ)
    → numbered_from (start + i) (map f (up_from i n)) ≡ map (λ j. record { number = start + j; row = f j }) (up_from i n)
unfolding numbered_from up_from
numbered-places start f i zero = refl
numbered-places start f i (suc n) =
    let e : suc (start + i) ≡ start + suc i = omega arith in
    rw e (ap (λ rs. record { number = start + i; row = f i } ∷ rs) (numbered-places start f (suc i) n))

pub numbered-sheet : (K : ℕ) (served : Served K) (s : Sheet) → numbered (summary_of K s) ≡ map (row_at K s) (up_from 0 (row_count s))
unfolding numbered summary_of
numbered-sheet K served s =
    ap (λ n. numbered_from n (map (λ i. kept (body_at s i) (parents_at K s i)) (up_from 0 (row_count s)))) (sym (add-zero s.start))
    ∙ numbered-places s.start (λ i. kept (body_at s i) (parents_at K s i)) 0 (row_count s)

-- ── where a section stands ───────────────────────────────────────────────────────────────────

module _ (K : ℕ) (served : Served K) (s : Sheet) (t : Tidy K s) where
  group-count : length s.row_groups ≡ row_count s
  group-count = eqb-true (length s.row_groups) (row_count s) t.each_group

  -- the groups, row by row
  row-groups : map (λ i. get_or s.row_groups i 0) (up_from 0 (row_count s)) ≡ s.row_groups
  row-groups =
      ap (λ n. map (λ i. get_or s.row_groups i 0) (up_from 0 n)) (sym group-count)
      ∙ map-places (λ i. get_or s.row_groups i 0) 0 s.row_groups 0 (λ j l. ap (λ i. get_or s.row_groups i 0) (zero-add j))

  in_order : not_falling (map (λ i. get_or s.row_groups i 0) (up_from 0 (row_count s))) ≡ true
  in_order = rw row-groups t.group_order

  module _ (g : ℕ) where
    pub section-end : section_start s g + section_rows s g ≡ section_start s (suc g)
    unfolding section_start section_rows
    section-end = omega (arith, place-rises g (suc g) s.row_groups (omega arith))

    pub section-within : section_start s (suc g) ≤ row_count s
    unfolding section_start
    section-within = omega (arith, place-within (suc g) s.row_groups, group-count)

    places-section : filter (λ i. eqb (get_or s.row_groups i 0) g) (up_from 0 (row_count s)) ≡ up_from (section_start s g) (section_rows s g)
    unfolding between section_start section_rows
    places-section =
        range-one (λ i. get_or s.row_groups i 0) g (up_from 0 (row_count s)) in_order
        ∙ ap (λ gs. part (place g gs) (place (suc g) gs - place g gs) (up_from 0 (row_count s))) row-groups
        ∙ part-up_from (section_start s g) (section_rows s g) (row_count s) (omega (arith, section-end, section-within))

    -- each of its rows is of the group
    pub group-row : (i : ℕ) → section_start s g ≤ i → i < section_start s (suc g) → get_or s.row_groups i 0 ≡ g
    group-row i l m =
        let a = section_start s g in
        let n = section_rows s g in
        let q = each-get_or (λ j. eqb (get_or s.row_groups j 0) g ≡ true) (up_from a n) (i - a) 0
        (rw places-section at (filter_passes (λ j. eqb (get_or s.row_groups j 0) g) (up_from 0 (row_count s)))) (omega (arith, length-up_from a n, section-end)) in
        let e : get_or (up_from a n) (i - a) 0 ≡ i = get_or-up_from a n (i - a) 0 (omega (arith, section-end)) ∙ omega arith in
        eqb-true (get_or s.row_groups i 0) g (rw e at q)

    -- the rows of a group
    pub rows-section : rows_in (summary_of K s) g ≡ map (row_at K s) (up_from (section_start s g) (section_rows s g))
    unfolding rows_in body_at
    rows-section = rw (numbered-sheet K served s) (filter_map (group_is g) (row_at K s) (up_from 0 (row_count s)) ∙ ap (map (row_at K s)) places-section)

    -- the rows of other groups
    pub others-section : filter (λ r. not (group_is g r)) (numbered (summary_of K s)) ≡ map (row_at K s) (other_rows s g)
    unfolding body_at other_rows section_start
    others-section =
        rw (numbered-sheet K served s)
        (filter_map (λ r. not (group_is g r)) (row_at K s) (up_from 0 (row_count s))
        ∙ ap (map (row_at K s))
        (outside-one (λ i. get_or s.row_groups i 0) g (up_from 0 (row_count s)) in_order
        ∙ ap (λ gs. take (place g gs) (up_from 0 (row_count s)) ++ drop (place (suc g) gs) (up_from 0 (row_count s))) row-groups
        ∙ ap₂ ◌++◌ (take-up_from 0 (section_start s g) (row_count s) (omega (arith, section-end, section-within)))
        (drop-up_from 0 (section_start s (suc g)) (row_count s) section-within
        ∙ ap (λ i. up_from i (row_count s - section_start s (suc g))) (zero-add (section_start s (suc g))))))

    -- ── what its rows hold ─────────────────────────────────────────────────────────────────────

    pub count-section : length (rows_in (summary_of K s) g) ≡ section_rows s g
    count-section = ap length rows-section ∙ length-map-up_from (row_at K s) (section_start s g) (section_rows s g)

    pub first-section : 0 < section_rows s g → first_number (rows_in (summary_of K s) g) ≡ section_first s g
    unfolding up_from
    first-section l = ap first_number rows-section ∙ go (section_rows s g) l
      where
        go : (n : ℕ) → 0 < n → first_number (map (row_at K s) (up_from (section_start s g) n)) ≡ section_first s g
        go zero l = absurd (not-suc-le-zero l)
        go (suc n) l = refl

    pub tags-section : map (λ r. r.row.body.tag) (rows_in (summary_of K s) g) ≡ section_tags s g
    unfolding body_at
    tags-section =
        ap (map (λ r. r.row.body.tag)) rows-section ∙ map-map (λ r. r.row.body.tag) (row_at K s) (up_from (section_start s g) (section_rows s g))
        ∙ map-part s.tags 0 (section_start s g) (section_rows s g) (omega (arith, section-end, section-within))

    pub labels-section : labels_in (rows_in (summary_of K s) g) ≡ section_labels s g
    unfolding labels_in body_at
    labels-section =
        let a = section_start s g in
        let n = section_rows s g in
        ap (flat (λ r. label_list r.row.body.label)) rows-section ∙ flat_map (λ r. label_list r.row.body.label) (row_at K s) (up_from a n)
        ∙ sym (flat_map label_list (λ i. get_or s.labels i none) (up_from a n))
        ∙ ap (flat label_list)
        (map-part s.labels none a n (omega (arith, section-end, section-within, eqb-true (length s.labels) (row_count s) t.each_label)))

    pub lists-section : slots_of_rows (rows_in (summary_of K s) g) ≡ section_lists K s g
    unfolding slots_of_rows parents_at
    lists-section =
        ap (flat (λ r. r.row.parents)) rows-section ∙ flat_map (λ r. r.row.parents) (row_at K s) (up_from (section_start s g) (section_rows s g))
        ∙ parts_from K s.lists (section_start s g) (section_rows s g)

    -- ── its lists as flat columns ────────────────────────────────────────────────────────────

    lists-within : K * section_start s g + K * section_rows s g ≤ length s.lists
    lists-within =
        let rows : section_start s g + section_rows s g ≤ row_count s = omega (arith, section-end, section-within) in
        omega (arith, mul-le-mul_left K rows, eqb-true (length s.lists) (K * row_count s) t.each_list)

    -- where the lists start, out of where all start
    pub offsets-section : starts 0 (section_lists K s g)
        ≡ map (λ o. o - get_or (starts 0 s.lists) (K * section_start s g) 0)
        (part (K * section_start s g) (suc (K * section_rows s g)) (starts 0 s.lists))
    offsets-section = starts-part (K * section_start s g) (K * section_rows s g) s.lists lists-within

    -- what they hold, out of what all hold
    pub targets-section : joined (section_lists K s g)
        ≡ part (get_or (starts 0 s.lists) (K * section_start s g) 0)
        (get_or (starts 0 s.lists) (K * section_start s (suc g)) 0 - get_or (starts 0 s.lists) (K * section_start s g) 0) (joined s.lists)
    targets-section =
        let e : K * section_start s g + K * section_rows s g ≡ K * section_start s (suc g) = omega (arith, ap (λ x. K * x) section-end) in
        joined-part (K * section_start s g) (K * section_rows s g) s.lists lists-within
        ∙ ap (λ k. part (get_or (starts 0 s.lists) (K * section_start s g) 0)
        (get_or (starts 0 s.lists) k 0 - get_or (starts 0 s.lists) (K * section_start s g) 0) (joined s.lists)) e
