-- Reading what was stored: rising links of 32 bits come back from their columns, and the ranges of any labels are in form.
use mathlib.Core.Path.{◌≡◌, refl, ap}
use mathlib.Core.Bool.{Bool, true, false, cond}
use mathlib.Core.Logic.{inl, inr}
use mathlib.Core.List.{List, [], ◌∷◌, map, foldl}
use Prim.Native.Nat.{ℕ, ◌+◌, ◌≤◌, ◌<◌}
use native.Mathlib.Omega.{arith}
use lib.Dec.{ltb, leb, eqb}
use lib.ListN.{length, length-map}
use borrow.Author.Tests.{lt-ltb, le-leb, eq-eqb, ltb-true, ltb-false, leb-true, eqb-false}
use Rattle.lists.specs.Lists.{all, Each}
use Rattle.lists.specs.Order.{level_above, rises_above, rising}
use Rattle.columns.specs.Limits.{end32}
use Rattle.columns.specs.Reading.{Label}
use Rattle.lists.proofs.Tests.{tested, both}
use Rattle.cover.specs.Chains.{Range, Link, widen, add_label, ranges_of, link_less, links_above, links_rise}
use Rattle.cover.specs.Cover.{links_of, even_columns, wrapping_less, differences, sums, sums_fit, columns_of, stored_links, ranges_ok, links_ok}
use Rattle.cover.proofs.Links.{less-from}

-- ── the difference column ────────────────────────────────────────────────────────────────────

-- the wrapping difference of two numbers in order is the true one
difference-back : (x before : ℕ) → before ≤ x → x < end32 → before + wrapping_less x before ≡ x
unfolding wrapping_less
difference-back x before h l = omega arith

sums-differences : (before : ℕ) (xs : List ℕ) → level_above before xs ≡ true → Each (λ x. x < end32) xs → sums before (differences before xs) ≡ xs
unfolding sums differences level_above
sums-differences before [] a h = refl
sums-differences before (x ∷ xs) a h =
    let p = both (leb before x) (level_above x xs) a in
    rw (difference-back x before (leb-true before x p.0) h.0, sums-differences x xs p.1 h.1)

pub length-sums : (before : ℕ) (ds : List ℕ) → length (sums before ds) ≡ length ds
unfolding sums
length-sums before [] = refl
length-sums before (d ∷ ds) = rw (length-sums (before + d) ds)

pub length-differences : (before : ℕ) (xs : List ℕ) → length (differences before xs) ≡ length xs
unfolding differences
length-differences before [] = refl
length-differences before (x ∷ xs) = rw (length-differences x xs)

all-below : (xs : List ℕ) → Each (λ x. x < end32) xs → all (λ x. ltb x end32) xs ≡ true
unfolding all
all-below [] h = refl
all-below (x ∷ xs) h = rw (lt-ltb x end32 h.0) (all-below xs h.1)

-- ── links ────────────────────────────────────────────────────────────────────────────────────

-- a link whose four numbers are of 32 bits
abbrev pub Small : Link → Type 0
Small l = (l.from_chain < end32) × (l.from_seq < end32) × (l.to_chain < end32) × (l.to_seq < end32)

abbrev from_chains : List Link → List ℕ
from_chains ls = map (λ l. l.from_chain) ls

from-below : (ls : List Link) → Each Small ls → Each (λ x. x < end32) (from_chains ls)
from-below [] h = tt
from-below (l ∷ ls) h = (h.0.0, from-below ls h.1)

above-level : (k : Link) (ls : List Link) → links_above k ls ≡ true → level_above k.from_chain (from_chains ls) ≡ true
unfolding links_above level_above
above-level k [] a = refl
above-level k (l ∷ ls) a =
    let p = both (link_less k l) (links_above l ls) a in
    rw (le-leb k.from_chain l.from_chain (less-from k l p.0)) (above-level l ls p.1)

rise-level : (ls : List Link) → links_rise ls ≡ true → level_above 0 (from_chains ls) ≡ true
unfolding links_rise level_above
rise-level [] a = refl
rise-level (l ∷ ls) a = rw (le-leb 0 l.from_chain (omega arith)) (above-level l ls a)

links-columns : (ls : List Link) → links_of (from_chains ls) (map (λ l. l.from_seq) ls) (map (λ l. l.to_chain) ls) (map (λ l. l.to_seq) ls) ≡ ls
unfolding links_of
links-columns [] = refl
links-columns (l ∷ ls) = ap (λ ks. l ∷ ks) (links-columns ls)

columns-even : (ls : List Link) → even_columns (columns_of ls) ≡ true
unfolding even_columns columns_of
columns-even ls = simp (length-differences, length-map, eq-eqb (length ls) (length ls) refl)

module _ (ls : List Link) (rise : links_rise ls ≡ true) (small : Each Small ls) where
  chains-back : sums 0 (differences 0 (from_chains ls)) ≡ from_chains ls
  chains-back = sums-differences 0 (from_chains ls) (rise-level ls rise) (from-below ls small)

  pub stored_back : stored_links (columns_of ls) ≡ ls
  unfolding stored_links columns_of
  stored_back = rw chains-back (links-columns ls)

  pub stored_ok : links_ok (columns_of ls) ≡ true
  unfolding links_ok sums_fit columns_of
  stored_ok = rw (columns-even ls, chains-back, all-below (from_chains ls) (from-below ls small), stored_back) rise

-- ── ranges ───────────────────────────────────────────────────────────────────────────────────

abbrev chains_of : List Range → List ℕ
chains_of rs = map (λ r. r.chain) rs

abbrev in_order : Range → Bool
in_order r = leb r.least r.greatest

widen-ordered : (r : Range) (seq : ℕ) → in_order r ≡ true → in_order (widen r seq) ≡ true
unfolding widen
widen-ordered r seq o = go (ltb seq r.least) refl (ltb r.greatest seq) refl
  where
    go : (b : Bool) → ltb seq r.least ≡ b → (c : Bool) → ltb r.greatest seq ≡ c → leb (cond b seq r.least) (cond c seq r.greatest) ≡ true
    go true e true f = le-leb seq seq (omega arith)
    go true e false f = le-leb seq r.greatest (omega (arith, leb-true r.least r.greatest o, ltb-true seq r.least e))
    go false e true f = le-leb r.least seq (omega (arith, ltb-false seq r.least e))
    go false e false f = o

add-ordered : (l : Label) (rs : List Range) → all in_order rs ≡ true → all in_order (add_label rs l) ≡ true
unfolding all add_label
add-ordered l [] o = rw (le-leb l.seq l.seq (omega arith))
add-ordered l (r ∷ rs) o =
    let p = both (in_order r) (all in_order rs) o in
    elim (tested (ltb r.chain l.chain)) [
      | inl e ↦ rw (e, p.0) (add-ordered l rs p.1)
      | inr e ↦ elim (tested (eqb r.chain l.chain)) [
        | inl f ↦ rw (e, f, widen-ordered r l.seq p.0) p.1
        | inr f ↦ rw (e, f, le-leb l.seq l.seq (omega arith)) o
      ]
    ]

-- a chain that is neither above another nor level with it is below it
below : (r : Range) (l : Label) → ltb r.chain l.chain ≡ false → eqb r.chain l.chain ≡ false → ltb l.chain r.chain ≡ true
below r l e f = lt-ltb l.chain r.chain (omega (arith, ltb-false r.chain l.chain e, eqb-false r.chain l.chain f))

above-add : (low : ℕ) (l : Label) (rs : List Range) → ltb low l.chain ≡ true → rises_above low (chains_of rs) ≡ true → rises_above low (chains_of (add_label rs l)) ≡ true
unfolding rises_above add_label widen
above-add low l [] h a = rw h
above-add low l (r ∷ rs) h a =
    let p = both (ltb low r.chain) (rises_above r.chain (chains_of rs)) a in
    elim (tested (ltb r.chain l.chain)) [
      | inl e ↦ rw (e, p.0) (above-add r.chain l rs e p.1)
      | inr e ↦ elim (tested (eqb r.chain l.chain)) [ inl f ↦ rw (e, f) a | inr f ↦ rw (e, f, h, below r l e f) p.1 ]
    ]

add-rises : (l : Label) (rs : List Range) → rising (chains_of rs) ≡ true → rising (chains_of (add_label rs l)) ≡ true
unfolding rising rises_above add_label widen
add-rises l [] a = refl
add-rises l (r ∷ rs) a =
    elim (tested (ltb r.chain l.chain)) [
      | inl e ↦ rw e (above-add r.chain l rs e a)
      | inr e ↦ elim (tested (eqb r.chain l.chain)) [ inl f ↦ rw (e, f) a | inr f ↦ rw (e, f, below r l e f) a ]
    ]

add_ok : (l : Label) (rs : List Range) → ranges_ok rs ≡ true → ranges_ok (add_label rs l) ≡ true
unfolding ranges_ok
add_ok l rs a = let p = both (rising (chains_of rs)) (all in_order rs) a in rw (add-rises l rs p.0) (add-ordered l rs p.1)

fold_ok : (rs : List Range) (ls : List Label) → ranges_ok rs ≡ true → ranges_ok (foldl add_label rs ls) ≡ true
fold_ok rs [] a = a
fold_ok rs (l ∷ ls) a = fold_ok (add_label rs l) ls (add_ok l rs a)

pub ranges-ok : (labels : List Label) → ranges_ok (ranges_of labels) ≡ true
unfolding ranges_of ranges_ok rising all
ranges-ok labels = fold_ok [] labels refl
