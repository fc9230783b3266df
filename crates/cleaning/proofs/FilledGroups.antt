-- Every group has a survivor (27) exactly where the groups of the kept rows, in order, reach the number of groups: one pass over the flat columns.
use mathlib.Core.Path.{◌≡◌, refl, ap, sym, ◌∙◌}
use mathlib.Core.Bool.{Bool, true, false, cond, not, ◌&&◌, ◌||◌}
use mathlib.Core.Logic.{inl, inr}
use mathlib.Core.List.{List, [], ◌∷◌, map}
use Prim.Native.Nat.{ℕ, zero, suc, ◌+◌, ◌≤◌, ◌<◌}
use native.Mathlib.Omega.{arith}
use native.Mathlib.Nat.{not-suc-le-zero, add-zero, zero-add}
use lib.Dec.{leb, ltb, eqb}
use lib.ListN.{length, get_or}
use borrow.Author.Tests.{ltb-true, ltb-false, leb-true, eqb-true, eqb-false, ne_eqb, eq-eqb}
use Rattle.columns.specs.Limits.{Served}
use Rattle.lists.specs.Lists.{any, all, mem, up_from, Each}
use Rattle.lists.specs.Order.{level_above, not_falling}
use Rattle.lists.proofs.Tests.{tested, both, all-each}
use Rattle.lists.proofs.Each.{each-imp, each_all}
use Rattle.lists.proofs.Once.{eqb-sym}
use Rattle.lists.proofs.Pairs.{each-up_from}
use Rattle.cleaning.specs.Resolving.{survives_in, groups_survive}
use Rattle.cleaning.specs.Sheet.{row_count, body_at, groups_of_sheet}
use Rattle.cleaning.specs.Held.{Held, event_at, archive_held}
use Rattle.cleaning.specs.Survivors.{keep, survivor_sheet}
use Rattle.cleaning.specs.Sections.{reaches, Tidy, Filled}
use Rattle.cleaning.proofs.SheetFacts.{Rows}
use Rattle.cleaning.proofs.Ranks.{each_keep}
use Rattle.cleaning.proofs.SheetFiles.{groups-length}
use Rattle.cleaning.proofs.TidySurvivors.{level-keep}

-- ── a group among the kept rows ──────────────────────────────────────────────────────────────

module _ (g : ℕ) where
  any-kept : (q : ℕ → Bool) (i : ℕ) (es : List Bool) (gs : List ℕ) → length gs ≡ length es
      → ((j : ℕ) → j < length es → q (i + j) ≡ (not (get_or es j false) && eqb (get_or gs j 0) g)) → any q (up_from i (length es)) ≡ mem g (keep es gs)
  unfolding any up_from mem keep
  any-kept q i [] gs e h = refl
  any-kept q i (b ∷ es) [] e h = absurd (not-suc-le-zero {n = length es} (omega (arith, e)))
  any-kept q i (b ∷ es) (x ∷ gs) e h =
      go b (ap q (sym (add-zero i)) ∙ h 0 (omega arith) ∙ ap (λ c. not b && c) (eqb-sym x g))
      (any-kept q (suc i) es gs (omega (arith, e)) (λ j l. ap q {x = suc i + j} {y = i + suc j} (omega arith) ∙ h (suc j) (omega arith)))
    where
      go : (c : Bool) → q i ≡ (not c && eqb g x) → any q (up_from (suc i) (length es)) ≡ mem g (keep es gs)
          → (q i || any q (up_from (suc i) (length es))) ≡ mem g (cond c (keep es gs) (x ∷ keep es gs))
      go true d r = rw (d, r)
      go false d r = rw (d, r)

any-map : {A B : Type 0} (p : B → Bool) (f : A → B) (xs : List A) → any p (map f xs) ≡ any (λ x. p (f x)) xs
unfolding any
any-map p f [] = refl
any-map p f (x ∷ xs) = rw (any-map p f xs)

-- ── all groups, in one pass ──────────────────────────────────────────────────────────────────

all-ext : {A : Type 0} (p q : A → Bool) (xs : List A) → Each (λ x. p x ≡ q x) xs → all p xs ≡ all q xs
unfolding all
all-ext p q [] h = refl
all-ext p q (x ∷ xs) h = rw (h.0, all-ext p q xs h.1)

mem-past : (g low : ℕ) (xs : List ℕ) → level_above low xs ≡ true → g < low → mem g xs ≡ false
unfolding mem level_above
mem-past g low [] h l = refl
mem-past g low (x ∷ xs) h l =
    let q = both (leb low x) (level_above x xs) h in
    let m = leb-true low x q.0 in
    rw (ne_eqb g x (omega arith)) (mem-past g x xs q.1 (omega arith))

-- an element below all that are asked for makes no difference
mem-rest : (x seen k : ℕ) (xs : List ℕ) → x < seen → all (λ g. mem g (x ∷ xs)) (up_from seen k) ≡ all (λ g. mem g xs) (up_from seen k)
unfolding mem
mem-rest x seen k xs l =
    all-ext (λ g. mem g (x ∷ xs)) (λ g. mem g xs) (up_from seen k)
    (each-imp (λ g. (seen ≤ g) × (g < seen + k)) (λ g. (eqb g x || mem g xs) ≡ mem g xs) (up_from seen k) (λ g b. rw (ne_eqb g x (omega arith))) (each-up_from seen k))

module _ (n : ℕ) where
  reaches_all : (k seen low : ℕ) (xs : List ℕ) → seen + k ≡ n → level_above low xs ≡ true → Each (λ x. x < n) xs
      → reaches n seen xs ≡ all (λ g. mem g xs) (up_from seen k)
  unfolding reaches all mem up_from level_above
  reaches_all zero seen low [] e h b = eq-eqb seen n (omega arith)
  reaches_all (suc k) seen low [] e h b = ne_eqb seen n (omega arith)
  reaches_all zero seen low (x ∷ xs) e h b =
      rw (ne_eqb x seen (omega (arith, b.0))) (reaches_all zero seen x xs e (both (leb low x) (level_above x xs) h).1 b.1)
  reaches_all (suc k) seen low (x ∷ xs) e h b =
      let r = (both (leb low x) (level_above x xs) h).1 in
      elim (tested (eqb x seen)) [
        | inl f ↦ let q = eqb-true x seen f in
            rw (f, eq-eqb seen x (sym q)) (reaches_all k (suc seen) x xs (omega arith) r b.1 ∙ sym (mem-rest x (suc seen) k xs (omega arith)))
        | inr f ↦ let d = eqb-false x seen f in
            rw f (reaches_all (suc k) seen x xs e r b.1 ∙ elim (tested (ltb x seen)) [
              | inl c ↦ sym (mem-rest x seen (suc k) xs (ltb-true x seen c))
              | inr c ↦ let l : seen < x = omega (arith, ltb-false x seen c, d) in rw (mem-past seen x xs r l, ne_eqb seen x (omega arith))
            ])
      ]

-- ── what is held ─────────────────────────────────────────────────────────────────────────────

module _ (K : ℕ) (served : Served K) (h : Held) (r : Rows K h) (t : Tidy K h.sheet) where
  survives-held : (g : ℕ) → any (survives_in g) (archive_held K h).events ≡ mem g (keep h.erased h.sheet.row_groups)
  unfolding archive_held event_at body_at survives_in
  survives-held g =
      any-map (survives_in g) (event_at K h) (up_from 0 (row_count h.sheet))
      ∙ ap (λ n. any (λ i. survives_in g (event_at K h i)) (up_from 0 n)) r.tags
      ∙ any-kept g (λ i. survives_in g (event_at K h i)) 0 h.erased h.sheet.row_groups r.groups
      (λ j l. ap (λ i. not (get_or h.erased i false) && eqb (get_or h.sheet.row_groups i 0) g) (zero-add j))

  -- 27 in one pass
  pub held-survive : groups_survive (archive_held K h) ≡ reaches (length h.sheet.groups) 0 (keep h.erased h.sheet.row_groups)
  unfolding groups_survive archive_held groups_of_sheet not_falling
  held-survive =
      let n = length h.sheet.groups in
      let gs = keep h.erased h.sheet.row_groups in
      let m = length (groups_of_sheet h.sheet) in
      all-ext (λ g. any (survives_in g) (archive_held K h).events) (λ g. mem g gs) (up_from 0 m)
      (each_all (λ g. any (survives_in g) (archive_held K h).events ≡ mem g gs) survives-held (up_from 0 m))
      ∙ ap (λ k. all (λ g. mem g gs) (up_from 0 k)) (groups-length h.sheet.links 0 h.sheet.groups)
      ∙ sym (reaches_all n n 0 0 gs (omega arith) (level-keep 0 h.erased h.sheet.row_groups t.group_order)
      (each_keep (λ x. x < n) h.erased h.sheet.row_groups
      (each-imp (λ x. ltb x n ≡ true) (λ x. x < n) h.sheet.row_groups (λ x l. ltb-true x n l) (all-each (λ x. ltb x n) h.sheet.row_groups t.groups_known))))

  -- the sheet of the survivors of what is not refused
  pub filled-survivors : (lists : List (List ℕ)) → groups_survive (archive_held K h) ≡ true → Filled (survivor_sheet K h lists)
  unfolding survivor_sheet
  filled-survivors lists e = sym held-survive ∙ e
