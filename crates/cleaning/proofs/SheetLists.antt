-- The lists of a tidy sheet's rows: where its slots keep 4 and 5, each row has good lists, and so has each row of a group.
use mathlib.Core.Path.{◌≡◌, refl, ap, subst, ◌∙◌}
use mathlib.Core.Bool.{true, false, or-true}
use mathlib.Core.List.{List, [], ◌∷◌, map}
use mathlib.Core.Option.{none}
use Prim.Native.Nat.{ℕ, zero, suc, ◌+◌, ◌-◌, ◌*◌, ◌≤◌, ◌<◌, ◌/◌}
use native.Mathlib.Nat.{mul-le-mul_left, div-eq_of_lt-le}
use native.Mathlib.Omega.{arith}
use lib.Dec.{leb, eqb}
use lib.ListN.{length, get_or, take, drop}
use lib.Seq.{get_or-take, get_or-drop}
use borrow.Author.Tests.{le-ltb, leb-false, eq-eqb, ne_eqb, eqb-true}
use Rattle.lists.specs.Lists.{flat, mem, distinct, part, up_from, Each}
use Rattle.lists.proofs.Tests.{not-both}
use Rattle.lists.proofs.Each.{each-imp, each_map, each-get_or}
use Rattle.lists.proofs.Pairs.{each-up_from}
use Rattle.lists.proofs.Flat.{flat_map}
use Rattle.lists.proofs.From.{EachFrom, from-eq}
use Rattle.columns.specs.Limits.{Served}
use Rattle.columns.specs.Refusal.{refuse}
use Rattle.columns.specs.EdgeSet.{event_of}
use Rattle.columns.specs.Questions.{list_of}
use Rattle.columns.specs.Building.{parent_rules, slot_rules}
use Rattle.columns.specs.declared.refusal.Refusal.TheVariants.{ParentNotEarlier, ParentTwice}
use Rattle.columns.proofs.FirstBroken.{each_none, not-refused}
use Rattle.cleaning.specs.Sheet.{Sheet, row_count, parents_at, summary_of}
use Rattle.cleaning.specs.Writing.{numbered, slots_of_rows}
use Rattle.cleaning.specs.Sections.{Tidy, section_start, section_rows, section_first, section_lists}
use Rattle.cleaning.proofs.Good.{GoodLists, RowsFrom}
use Rattle.cleaning.proofs.Numbers.{Counted, numbered-counted, lists-numbered}
use Rattle.cleaning.proofs.Parts.{length_part, parts_all}
use Rattle.cleaning.proofs.RowRules.{row-slots-none}
use Rattle.cleaning.proofs.SheetRows.{row_at, numbered-sheet, section-end, section-within, rows-section, lists-section}

-- ── slots that keep 4 and 5 ──────────────────────────────────────────────────────────────────

-- a slot's parents are below its event, and none stands twice
abbrev Earlier : ℕ → List ℕ → Type 0
Earlier event ps = Each (λ p. p < event) ps × (distinct ps ≡ true)

module _ (event : ℕ) where
  -- a parent that keeps 4 and 5, and those after it
  kept : (seen : List ℕ) (p : ℕ) (ps : List ℕ) → parent_rules event seen (p ∷ ps) ≡ none
      → (p < event) × (mem p seen ≡ false) × (parent_rules event (p ∷ seen) ps ≡ none)
  unfolding parent_rules
  kept seen p ps e =
      let h = each_none (refuse ParentNotEarlier (leb event p) ∷ refuse ParentTwice (mem p seen) ∷ parent_rules event (p ∷ seen) ps ∷ []) e in
      (leb-false event p (not-refused ParentNotEarlier (leb event p) h.0), not-refused ParentTwice (mem p seen) h.1.0, h.1.1.0)

  unseen : (x : ℕ) (seen ps : List ℕ) → parent_rules event seen ps ≡ none → mem x seen ≡ true → mem x ps ≡ false
  unfolding mem
  unseen x seen [] e m = refl
  unseen x seen (p ∷ ps) e m =
      let k = kept seen p ps e in
      rw (ne_eqb x p (λ d. not-both m (ap (λ y. mem y seen) d ∙ k.1))) (unseen x (p ∷ seen) ps k.2 (rw m (or-true (eqb x p))))

  parents-earlier : (seen ps : List ℕ) → parent_rules event seen ps ≡ none → Earlier event ps
  unfolding distinct mem
  parents-earlier seen [] e = (tt, refl)
  parents-earlier seen (p ∷ ps) e =
      let k = kept seen p ps e in
      let r = parents-earlier (p ∷ seen) ps k.2 in
      ((k.0, r.0), rw (unseen p (p ∷ seen) ps k.2 (rw (eq-eqb p p refl))) r.1)

slots-earlier : (K : ℕ) (served : Served K) (first slot : ℕ) (lists : List (List ℕ)) → slot_rules K first slot lists ≡ none → EachFrom (λ i. Earlier (event_of K first i)) slot lists
unfolding slot_rules
slots-earlier K served first slot [] e = tt
slots-earlier K served first slot (ps ∷ lists) e =
    let h = each_none (parent_rules (event_of K first slot) [] ps ∷ slot_rules K first (suc slot) lists ∷ []) e in
    (parents-earlier (event_of K first slot) [] ps h.0, slots-earlier K served first (suc slot) lists h.1.0)

-- ── a part of a list and its numbers ─────────────────────────────────────────────────────────

module _ {A : Type 0} (P : ℕ → A → Type 0) where
  from-drop : (i n : ℕ) (xs : List A) → EachFrom P n xs → EachFrom P (n + i) (drop i xs)
  from-drop zero n xs h = from-eq P n (n + 0) xs (omega arith) h
  from-drop (suc i) n [] h = tt
  from-drop (suc i) n (x ∷ xs) h = from-eq P (suc n + i) (n + suc i) (drop i xs) (omega arith) (from-drop i (suc n) xs h.1)

  from-take : (i n : ℕ) (xs : List A) → EachFrom P n xs → EachFrom P n (take i xs)
  from-take zero n xs h = tt
  from-take (suc i) n [] h = tt
  from-take (suc i) n (x ∷ xs) h = (h.0, from-take i (suc n) xs h.1)

  -- what holds of the elements whose numbers are from n up to m
  each_from : (Q : A → Type 0) (m n : ℕ) (xs : List A) → ((i : ℕ) (x : A) → n ≤ i → i < m → P i x → Q x) → n + length xs ≤ m → EachFrom P n xs → Each Q xs
  each_from Q m n [] f l h = tt
  each_from Q m n (x ∷ xs) f l h =
      (f n x (omega arith) (omega arith) h.0, each_from Q m (suc n) xs (λ i y a b p. f i y (omega arith) b p) (omega arith) h.1)

-- ── rows ─────────────────────────────────────────────────────────────────────────────────────

module _ (K : ℕ) (served : Served K) (s : Sheet) (t : Tidy K s) where
  pub all-lists : length s.lists ≡ K * row_count s
  all-lists = eqb-true (length s.lists) (K * row_count s) t.each_list

  pub row_list : (i k : ℕ) → k < K → get_or (parents_at K s i) k [] ≡ list_of K s.start s.lists k (s.start + i)
  unfolding parents_at part list_of
  row_list i k l =
      let e : s.start + i - s.start ≡ i = omega arith in
      rw (le-ltb (s.start + i) s.start (omega arith), e, get_or-take K (drop (K * i) s.lists) k [] l, get_or-drop (K * i) s.lists k [])

  -- a sheet whose rows have good lists keeps 4 and 5
  pub rows-slots : RowsFrom K s.start (summary_of K s).rows → slot_rules K s.start 0 s.lists ≡ none
  unfolding slots_of_rows parents_at numbered summary_of
  rows-slots h =
      let slots : slots_of_rows (numbered (summary_of K s)) ≡ s.lists =
      ap (flat (λ r. r.row.parents)) (numbered-sheet K served s) ∙ flat_map (λ r. r.row.parents) (row_at K s) (up_from 0 (row_count s))
      ∙ parts_all K (row_count s) s.lists all-lists in
      subst (λ ls. slot_rules K s.start 0 ls ≡ none) slots
      (row-slots-none K served s.start (numbered (summary_of K s)) (numbered-counted s.start (summary_of K s).rows) (lists-numbered K served s.start (summary_of K s).rows h))

  module _ (e : slot_rules K s.start 0 s.lists ≡ none) where
    pub row-good : (i : ℕ) → i < row_count s → GoodLists K (s.start + i) (parents_at K s i)
    unfolding parents_at part
    row-good i l =
        let wide : length (part (K * i) K s.lists) ≡ K = length_part (K * i) K s.lists (omega (arith, all-lists, mul-le-mul_left K l)) in
        let each : Each (Earlier (s.start + i)) (part (K * i) K s.lists) =
        each_from (λ j. Earlier (event_of K s.start j)) (Earlier (s.start + i)) (K * i + K) (0 + K * i) (part (K * i) K s.lists)
        (λ j ps a b h. subst (λ n. Earlier n ps) {x = event_of K s.start j} {y = s.start + i}
        (let row : j / K ≡ i = div-eq_of_lt-le K (omega arith) (omega arith) in rw row) h) (omega (arith, wide))
        (from-take (λ j. Earlier (event_of K s.start j)) K (0 + K * i) (drop (K * i) s.lists)
        (from-drop (λ j. Earlier (event_of K s.start j)) (K * i) 0 s.lists (slots-earlier K served s.start 0 s.lists e))) in
        record {
          each_kind = wide;
          once = each-imp (Earlier (s.start + i)) (λ ps. distinct ps ≡ true) (part (K * i) K s.lists) (λ ps h. h.1) each;
          below = each-imp (Earlier (s.start + i)) (λ ps. Each (λ p. p < s.start + i) ps) (part (K * i) K s.lists) (λ ps h. h.0) each;
        }

    -- the parents of a number are below it
    pub list_below : (n k : ℕ) → s.start ≤ n → n < s.start + row_count s → k < K → Each (λ p. p < n) (list_of K s.start s.lists k n)
    list_below n k a b l =
        let i = n - s.start in
        let q : s.start + i ≡ n = omega arith in
        let g = row-good i (omega arith) in
        rw q at (rw (row_list i k l) at (each-get_or (λ ps. Each (λ p. p < s.start + i) ps) (parents_at K s i) k [] g.below (omega (arith, g.each_kind))))

    -- ── a group's ──────────────────────────────────────────────────────────────────────────────

    rows_counted : (i n : ℕ) → Counted (s.start + i) (map (row_at K s) (up_from i n))
    unfolding up_from
    rows_counted i zero = tt
    rows_counted i (suc n) = let q : suc (s.start + i) ≡ s.start + suc i = omega arith in (refl, rw q (rows_counted (suc i) n))

    pub section_slots : (g : ℕ) → slot_rules K (section_first s g) 0 (section_lists K s g) ≡ none
    section_slots g =
        let a = section_start s g in
        let n = section_rows s g in
        rw (← lists-section K served s t g, rows-section K served s t g)
        (row-slots-none K served (section_first s g) (map (row_at K s) (up_from a n)) (rows_counted a n)
        (each_map (λ r. GoodLists K r.number r.row.parents) (row_at K s) (up_from a n)
        (each-imp (λ i. (a ≤ i) × (i < a + n)) (λ i. GoodLists K (s.start + i) (parents_at K s i)) (up_from a n)
        (λ i w. row-good i (omega (arith, w.1, section-end K served s t g, section-within K served s t g))) (each-up_from a n))))
