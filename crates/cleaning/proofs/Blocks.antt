-- The rows of the groups stand block after block: groups rise, no block is empty, each is numbered from where the one before it ends.
use mathlib.Core.Path.{◌≡◌, refl, ap, sym, ◌∙◌}
use mathlib.Core.Bool.{true, false, not}
use mathlib.Core.Logic.{inl, inr}
use mathlib.Core.List.Memᴰ
use mathlib.Core.List.{List, [], ◌∷◌, ◌++◌, map, Memᴰ}
use Prim.Native.Nat.{ℕ, zero, suc, ◌+◌, ◌-◌, ◌≤◌, ◌<◌}
use native.Mathlib.Omega.{arith}
use native.Mathlib.Nat.{not-suc-le-zero, le_of_suc-le-suc, add-zero, zero-add, add_assoc}
use borrow.Author.Tests.{eqb-true, eqb-false, ne_eqb, leb-true}
use lib.Dec.{leb, eqb}
use lib.ListN.{length}
use Rattle.columns.specs.Limits.{Served}
use Rattle.lists.specs.Lists.{flat, filter, sum, up_from, Each}
use Rattle.lists.specs.Order.{level_above, not_falling}
use Rattle.lists.proofs.Tests.{tested, both}
use Rattle.lists.proofs.Each.{each-imp, each_both}
use Rattle.lists.proofs.Pairs.{each-up_from}
use Rattle.lists.proofs.Flat.{flat-ext, length-flat, sum-append, up_from-append, up_from-snoc}
use Rattle.cleaning.specs.Summary.{Kept, Summary}
use Rattle.cleaning.specs.Writing.{Numbered, numbered_from, numbered, group_is, rows_in, first_number}
use Rattle.cleaning.proofs.Good.{GoodLists, GoodBody, Good}
use Rattle.lists.proofs.Filters.{each-filter, filter_passes, filter_none, filter-all}
use Rattle.cleaning.proofs.Numbers.{Counted, numbered-counted, each-numbered, lists-numbered, length-numbered, counted-append, counted-within, first_counted}

-- ── one block ────────────────────────────────────────────────────────────────────────────────

abbrev group_of : Numbered → ℕ
group_of r = r.row.body.group

-- the rows that are not of a group
abbrev others : ℕ → List Numbered → List Numbered
others g rs = filter (λ r. not (group_is g r)) rs

-- groups do not fall, and none is below g
abbrev Level : ℕ → List Numbered → Type 0
Level g [] = Unit {0}
Level g (r ∷ rs) = (g ≤ group_of r) × Level (group_of r) rs

level-each : (g : ℕ) (rs : List Numbered) → Level g rs → Each (λ r. g ≤ group_of r) rs
level-each g [] h = tt
level-each g (r ∷ rs) h = (h.0, each-imp (λ s. group_of r ≤ group_of s) (λ s. g ≤ group_of s) rs (λ s k. omega arith) (level-each (group_of r) rs h.1))

level-numbered : (g n : ℕ) (rs : List Kept) → level_above g (map (λ r. r.body.group) rs) ≡ true → Level g (numbered_from n rs)
unfolding level_above numbered_from
level-numbered g n [] h = tt
level-numbered g n (r ∷ rs) h =
    let q = both (leb g r.body.group) (level_above r.body.group (map (λ r. r.body.group) rs)) h in
    (leb-true g r.body.group q.0, level-numbered r.body.group (suc n) rs q.1)

-- rows past a group are none of its rows
past-none : (g : ℕ) (rs : List Numbered) → Each (λ r. suc g ≤ group_of r) rs → filter (group_is g) rs ≡ []
past-none g rs h = filter_none (group_is g) rs (each-imp (λ r. suc g ≤ group_of r) (λ r. group_is g r ≡ false) rs (λ r k. ne_eqb (group_of r) g (omega arith)) h)

past_all : (g : ℕ) (rs : List Numbered) → Each (λ r. suc g ≤ group_of r) rs → others g rs ≡ rs
past_all g rs h =
    filter-all (λ r. not (group_is g r)) rs
    (each-imp (λ r. suc g ≤ group_of r) (λ r. not (group_is g r) ≡ true) rs (λ r k. ap not (ne_eqb (group_of r) g (omega arith))) h)

-- the rows of the least group stand first
first_block : (g : ℕ) (rs : List Numbered) → Level g rs → (filter (group_is g) rs ++ others g rs ≡ rs) × Level (suc g) (others g rs)
unfolding filter
first_block g [] h = (refl, tt)
first_block g (r ∷ rs) h = elim (tested (group_is g r)) [
  | inl e ↦ let s : group_of r ≡ g = eqb-true (group_of r) g e in
      let q = first_block g rs (rw s at h.1) in rw e (ap (λ xs. r ∷ xs) q.0, q.1)
  | inr e ↦ let l : suc g ≤ group_of r = omega (arith, eqb-false (group_of r) g e) in
      let past = each-imp (λ s. group_of r ≤ group_of s) (λ s. suc g ≤ group_of s) rs (λ s k. omega arith) (level-each (group_of r) rs h.1) in
      rw (e, past-none g rs past, past_all g rs past) (refl, (l, h.1))
]

-- leaving another group's rows out keeps a group's rows
still-there : (g j : ℕ) (rs : List Numbered) → g < j → filter (group_is j) (others g rs) ≡ filter (group_is j) rs
unfolding filter
still-there g j [] l = refl
still-there g j (r ∷ rs) l = elim (tested (group_is g r)) [
  | inl e ↦ rw (e, ne_eqb (group_of r) j (omega (arith, eqb-true (group_of r) g e))) (still-there g j rs l)
  | inr e ↦ elim (tested (group_is j r)) [ inl f ↦ rw (e, f, still-there g j rs l) | inr f ↦ rw (e, f) (still-there g j rs l) ]
]

-- ── all blocks ───────────────────────────────────────────────────────────────────────────────

blocks-all : (k g : ℕ) (rs : List Numbered) → Level g rs → Each (λ r. group_of r < g + k) rs → flat (λ j. filter (group_is j) rs) (up_from g k) ≡ rs
unfolding up_from
blocks-all zero g [] h b = refl
blocks-all zero g (r ∷ rs) h b = absurd (omega (arith, h.0, b.0))
blocks-all (suc k) g rs h b =
    let q = first_block g rs h in
    let b' : Each (λ r. group_of r < suc g + k) rs = each-imp (λ r. group_of r < g + suc k) (λ r. group_of r < suc g + k) rs (λ r l. omega arith) b in
    ap (λ xs. filter (group_is g) rs ++ xs)
    (flat-ext (λ j. filter (group_is j) rs) (λ j. filter (group_is j) (others g rs)) (up_from (suc g) k)
    (each-imp (λ j. (suc g ≤ j) × (j < suc g + k)) (λ j. filter (group_is j) rs ≡ filter (group_is j) (others g rs)) (up_from (suc g) k)
    (λ j w. sym (still-there g j rs w.0)) (each-up_from (suc g) k))
    ∙ blocks-all k (suc g) (others g rs) q.1 (each-filter (λ r. not (group_is g r)) (λ r. group_of r < suc g + k) rs b'))
    ∙ q.0

-- a group that some row has has a row
filled : (g n : ℕ) (rs : List Kept) → Memᴰ g (map (λ r. r.body.group) rs) → 0 < length (filter (group_is g) (numbered_from n rs))
unfolding filter numbered_from
filled g n [] m = absurd (Memᴰ.not-nil m)
filled g n (r ∷ rs) m = elim (tested (eqb r.body.group g)) [
  | inl e ↦ rw e (omega arith)
  | inr e ↦ rw e (elim (Memᴰ.cases_cons m) [ inl f ↦ absurd (eqb-false r.body.group g e (sym f)) | inr t ↦ filled g (suc n) rs t ])
]

-- ── where blocks stand ───────────────────────────────────────────────────────────────────────

-- the rows of the groups before g
abbrev pub rows_before : Summary → ℕ → ℕ
rows_before S g = sum (λ j. length (rows_in S j)) (up_from 0 g)

counted-at : (f : ℕ → List Numbered) (n g k j : ℕ) → Counted n (flat f (up_from g k)) → j < k → Counted (n + sum (λ i. length (f i)) (up_from g j)) (f (g + j))
unfolding up_from sum
counted-at f n g zero j h l = absurd (not-suc-le-zero l)
counted-at f n g (suc k) zero h l = rw (add-zero n, add-zero g) (counted-append n (f g) (flat f (up_from (suc g) k)) h).0
counted-at f n g (suc k) (suc j) h l =
    let q = counted-at f (n + length (f g)) (suc g) k j (counted-append n (f g) (flat f (up_from (suc g) k)) h).1 (le_of_suc-le-suc l) in
    let e : n + length (f g) + sum (λ i. length (f i)) (up_from (suc g) j) ≡ n + (length (f g) + sum (λ i. length (f i)) (up_from (suc g) j)) = omega arith in
    let d : suc g + j ≡ g + suc j = omega arith in
    rw (e, d) at q

-- what holds of a row of group g
pub record GoodRow (K : ℕ) (S : Summary) (g : ℕ) (r : Numbered) : Type 0 where
  pub group : r.row.body.group ≡ g
  pub lists : GoodLists K r.number r.row.parents
  pub body : GoodBody S.groups r.row.body

module _ (K : ℕ) (served : Served K) (S : Summary) (good : Good K S) where
  good-rows : Each (λ r. GoodLists K r.number r.row.parents × GoodBody S.groups r.row.body) (numbered S)
  unfolding numbered
  good-rows =
      each_both (λ r. GoodLists K r.number r.row.parents) (λ r. GoodBody S.groups r.row.body) (numbered S)
      (lists-numbered K served S.start S.rows good.lists) (each-numbered (λ r. GoodBody S.groups r.body) S.start S.rows good.bodies)

  pub all-rows : flat (rows_in S) (up_from 0 (length S.groups)) ≡ numbered S
  unfolding rows_in numbered not_falling
  all-rows =
      blocks-all (length S.groups) 0 (numbered S) (level-numbered 0 S.start S.rows good.order)
      (each-imp (λ r. GoodLists K r.number r.row.parents × GoodBody S.groups r.row.body) (λ r. group_of r < 0 + length S.groups) (numbered S)
      (λ r h. omega (arith, h.1.group)) good-rows)

  pub rows_counted : (g : ℕ) → g < length S.groups → Counted (S.start + rows_before S g) (rows_in S g)
  unfolding numbered
  rows_counted g l =
      let h : Counted S.start (flat (rows_in S) (up_from 0 (length S.groups))) = rw all-rows (numbered-counted S.start S.rows) in
      rw (zero-add g) at (counted-at (rows_in S) S.start 0 (length S.groups) g h l)

  pub rows-filled : (g : ℕ) → g < length S.groups → 0 < length (rows_in S g)
  unfolding rows_in numbered
  rows-filled g l = filled g S.start S.rows (good.every g l)

  pub rows-first : (g : ℕ) → g < length S.groups → first_number (rows_in S g) ≡ S.start + rows_before S g
  rows-first g l = first_counted (S.start + rows_before S g) (rows_in S g) (rows-filled g l) (rows_counted g l)

  pub before-next : (g : ℕ) → rows_before S (suc g) ≡ rows_before S g + length (rows_in S g)
  unfolding sum
  before-next g = rw (up_from-snoc 0 g, zero-add g, sum-append (λ j. length (rows_in S j)) (up_from 0 g) (g ∷ [])) (omega arith)

  pub before-all : rows_before S (length S.groups) ≡ length S.rows
  unfolding numbered
  before-all = sym (length-flat (rows_in S) (up_from 0 (length S.groups))) ∙ ap length all-rows ∙ length-numbered S.start S.rows

  pub before-rises : (g h : ℕ) → g ≤ h → rows_before S g ≤ rows_before S h
  before-rises g h l = go (h - g) (omega arith)
    where
      go : (m : ℕ) → g + m ≡ h → rows_before S g ≤ rows_before S h
      go m e =
          let q : rows_before S h ≡ sum (λ j. length (rows_in S j)) (up_from 0 g ++ up_from (0 + g) m) = rw (← e, up_from-append 0 g m) in
          omega (arith, sum-append (λ j. length (rows_in S j)) (up_from 0 g) (up_from (0 + g) m), q)

  pub before-within : (g : ℕ) → g ≤ length S.groups → rows_before S g ≤ length S.rows
  before-within g l = omega (arith, before-rises g (length S.groups) l, before-all)

  pub rows-good : (g : ℕ) → Each (GoodRow K S g) (rows_in S g)
  unfolding rows_in
  rows-good g =
      each-imp (λ r. (group_is g r ≡ true) × (GoodLists K r.number r.row.parents × GoodBody S.groups r.row.body)) (GoodRow K S g) (rows_in S g)
      (λ r h. record { group = eqb-true (group_of r) g h.0; lists = h.1.0; body = h.1.1 })
      (each_both (λ r. group_is g r ≡ true) (λ r. GoodLists K r.number r.row.parents × GoodBody S.groups r.row.body) (rows_in S g)
      (filter_passes (group_is g) (numbered S)) (each-filter (group_is g) _ (numbered S) good-rows))

  -- with its number in the group's block
  pub rows_within : (g : ℕ) → g < length S.groups
      → Each (λ r. GoodRow K S g r × ((S.start + rows_before S g ≤ r.number) × (r.number < S.start + rows_before S (suc g)))) (rows_in S g)
  rows_within g l =
      rw (before-next g, ← add_assoc S.start (rows_before S g) (length (rows_in S g)))
      (each_both (GoodRow K S g) (λ r. (S.start + rows_before S g ≤ r.number) × (r.number < S.start + rows_before S g + length (rows_in S g))) (rows_in S g)
      (rows-good g) (counted-within (S.start + rows_before S g) (rows_in S g) (rows_counted g l)))
