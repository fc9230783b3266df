-- The records that rows give fit their fields: sets, unresolved references, state roots and covers, each in the order that 23 asks.
use mathlib.Core.Path.{◌≡◌, refl, ap, sym, ◌∙◌}
use mathlib.Core.Bool.{Bool, true, false, cond}
use mathlib.Core.Logic.{inl, inr}
use mathlib.Core.List.{List, [], ◌∷◌, ◌++◌, map, foldl, map-map, map-append}
use mathlib.Core.Option.{Option, none, some}
use Prim.Native.Nat.{ℕ, suc, ◌+◌, ◌*◌, ◌≤◌, ◌<◌, ◌^◌}
use native.Mathlib.Omega.{arith}
use borrow.Author.Tests.{ltb-true, lt-ltb, le-leb}
use lib.Dec.{ltb, eqb}
use lib.IntN.{ℤ, pos, negsuc}
use lib.ListN.{length, length-append, length-map}
use mir.Syntax.{w64}
use mir.Val.{SFits}
use Rattle.lists.specs.Lists.{flat, joined, starts, Each}
use Rattle.lists.specs.Order.{level_above, not_falling, rises_above, rising}
use Rattle.lists.proofs.Tests.{tested, all-each}
use Rattle.lists.proofs.Each.{each-imp, each_map, each_append}
use Rattle.lists.proofs.Flat.{length-starts}
use Rattle.columns.specs.Limits.{Served, max_records, max_numbers}
use Rattle.columns.specs.EdgeSet.{deltas_from, set_of}
use Rattle.columns.specs.Reading.{Label}
use Rattle.columns.specs.Building.{fits63, deltas_fit}
use Rattle.columns.proofs.ReadBack.{set-count}
use Rattle.cover.specs.Chains.{Range, Link, widen, add_label, ranges_of}
use Rattle.cover.specs.Cover.{wrapping_less, differences, columns_of}
use Rattle.archive.specs.Fits.{Wide, SetFits, RootFits, RangeFits, LinksFit, CoverFitsIn}
use Rattle.cleaning.specs.Taking.{stored_ranges, stored_link_count}
use Rattle.cleaning.specs.Writing.{Numbered, unresolved_of, root_of, roots_from, label_list, labels_in, label_columns, cover_of_group}
use Rattle.cleaning.proofs.Good.{LinkFits, GoodLinks, GoodLabel, GoodRoot}
use Rattle.cleaning.proofs.Numbers.{Counted}
use Rattle.cleaning.proofs.Followed.{Labelled, length-labels}
use Rattle.cleaning.proofs.OutputFigures.{length-from_chains}
use Rattle.cleaning.proofs.ByteLengths.{short-cover}

-- ── sets ─────────────────────────────────────────────────────────────────────────────────────

starts-bounded : {A : Type 0} (a : ℕ) (ls : List (List A)) → Each (λ x. x ≤ a + length (joined ls)) (starts a ls)
unfolding starts joined
starts-bounded a [] = (omega arith, tt)
starts-bounded a (l ∷ ls) = (
  omega arith,
  each-imp (λ x. x ≤ a + length l + length (joined ls)) (λ x. x ≤ a + length (l ++ joined ls)) (starts (a + length l) ls)
      (λ x h. omega (arith, length-append l (joined ls))) (starts-bounded (a + length l) ls),
)

fits_signed : (d : ℤ) → fits63 d ≡ true → SFits w64 d
unfolding fits63
fits_signed (pos n) e = record { sfits = ltb-true n (2 ^ 63) e }
fits_signed (negsuc n) e = record { sfits = ltb-true n (2 ^ 63) e }

pub set-fits : (K : ℕ) (served : Served K) (first rows : ℕ) (lists : List (List ℕ)) → length lists ≡ K * rows → length (set_of K first lists).deltas ≤ max_numbers
    → deltas_fit K first lists ≡ true → SetFits K rows (set_of K first lists)
unfolding set_of deltas_fit
set-fits K served first rows lists full few fit = record {
  slots = omega (arith, length-starts 0 lists);
  counted = sym (set-count K first lists);
  count = omega (arith, set-count K first lists);
  offsets = each-imp (λ x. x ≤ 0 + length (joined lists)) (λ x. x < 256 ^ 8) (starts 0 lists) (λ x h. omega (arith, set-count K first lists))
      (starts-bounded 0 lists);
  deltas = each-imp (λ d. fits63 d ≡ true) (λ d. SFits w64 d) (joined (deltas_from K first 0 lists)) fits_signed
      (all-each fits63 (joined (deltas_from K first 0 lists)) fit);
}

-- ── unresolved references ────────────────────────────────────────────────────────────────────

-- the same number, as often as may be, and then numbers from it on
level-same : {A : Type 0} (low n : ℕ) (us : List A) (rest : List ℕ) → low ≤ n → ((m : ℕ) → m ≤ n → level_above m rest ≡ true)
    → level_above low (map (λ u. n) us ++ rest) ≡ true
unfolding level_above
level-same low n [] rest l h = h low l
level-same low n (u ∷ us) rest l h = rw (le-leb low n l) (level-same n n us rest (omega arith) h)

children-level : (low n : ℕ) (rs : List Numbered) → low ≤ n → Counted n rs → level_above low (map (λ u. u.child) (flat unresolved_of rs)) ≡ true
unfolding level_above unresolved_of
children-level low n [] l c = refl
children-level low n (r ∷ rs) l c =
    let rest : List ℕ = map (λ u. u.child) (flat unresolved_of rs) in
    let own : map (λ u. u.child) (unresolved_of r) ≡ map (λ u. r.number) r.row.body.unresolved = map-map (λ u. u.child) _ r.row.body.unresolved in
    ap (level_above low) (map-append (λ u. u.child) (unresolved_of r) (flat unresolved_of rs) ∙ ap (λ xs. xs ++ rest) own)
    ∙ level-same low r.number r.row.body.unresolved rest (omega (arith, c.0)) (λ m h. children-level m (suc n) rs (omega (arith, c.0)) c.1)

pub references-ordered : (n : ℕ) (rs : List Numbered) → Counted n rs → not_falling (map (λ u. u.child) (flat unresolved_of rs)) ≡ true
unfolding not_falling
references-ordered n rs c = children-level 0 n rs (omega arith) c

-- ── state roots ──────────────────────────────────────────────────────────────────────────────

roots-above : (low i : ℕ) (rs : List Numbered) → low < i → rises_above low (map (λ r. r.row) (roots_from i rs)) ≡ true
unfolding rises_above roots_from
roots-above low i [] l = refl
roots-above low i (r ∷ rs) l = go r.row.body.root (λ m h. roots-above m (suc i) rs h)
  where
    go : (o : Option ℕ) → ((m : ℕ) → m < suc i → rises_above m (map (λ r. r.row) (roots_from (suc i) rs)) ≡ true)
        → rises_above low (map (λ r. r.row) (root_of i o ++ roots_from (suc i) rs)) ≡ true
    go none h = h low (omega arith)
    go (some handle) h = rw (lt-ltb low i l) (h i (omega arith))

pub roots-ordered : (i : ℕ) (rs : List Numbered) → rising (map (λ r. r.row) (roots_from i rs)) ≡ true
unfolding rising roots_from
roots-ordered i [] = refl
roots-ordered i (r ∷ rs) = go r.row.body.root (roots-ordered (suc i) rs)
  where
    go : (o : Option ℕ) → rising (map (λ r. r.row) (roots_from (suc i) rs)) ≡ true → rising (map (λ r. r.row) (root_of i o ++ roots_from (suc i) rs)) ≡ true
    go none h = h
    go (some handle) h = roots-above i (suc i) rs (omega arith)

pub roots-fit : (i : ℕ) (rs : List Numbered) → i + length rs < 256 ^ 8 → Each (λ r. GoodRoot r.row.body.root) rs → Each RootFits (roots_from i rs)
unfolding roots_from
roots-fit i [] l h = tt
roots-fit i (r ∷ rs) l h =
    each_append RootFits (root_of i r.row.body.root) (roots_from (suc i) rs) (one r.row.body.root h.0) (roots-fit (suc i) rs (omega arith) h.1)
  where
    one : (o : Option ℕ) → GoodRoot o → Each RootFits (root_of i o)
    one none g = tt
    one (some handle) g = ((omega arith, g), tt)

-- ── covers ───────────────────────────────────────────────────────────────────────────────────

abbrev SmallLabel : Label → Type 0
SmallLabel l = (l.chain < 2 ^ 32) × (l.seq < 2 ^ 32)

module _ (links : List Link) where
  labels-small : (rs : List Numbered) → Each (Labelled links) rs → Each SmallLabel (labels_in rs)
  unfolding labels_in
  labels-small [] h = tt
  labels-small (r ∷ rs) h = go r.row.body.label h.0 (labels-small rs h.1)
    where
      go : (o : Option Label) → GoodLabel (some links) o → Each SmallLabel (labels_in rs) → Each SmallLabel (label_list o ++ labels_in rs)
      go none g e = absurd g
      go (some l) g e = (g, e)

widen-fits : (r : Range) (seq : ℕ) → RangeFits r → seq < 2 ^ 32 → RangeFits (widen r seq)
unfolding widen
widen-fits r seq f l = (f.0, pick (ltb seq r.least) r.least f.1, pick (ltb r.greatest seq) r.greatest f.2)
  where
    pick : (b : Bool) (n : ℕ) → n < 256 ^ 4 → cond b seq n < 256 ^ 4
    pick true n h = l
    pick false n h = h

add-fits : (rs : List Range) (l : Label) → Each RangeFits rs → SmallLabel l → Each RangeFits (add_label rs l)
unfolding add_label
add-fits [] l h s = ((s.0, s.1, s.1), tt)
add-fits (r ∷ rs) l h s = elim (tested (ltb r.chain l.chain)) [
  | inl e ↦ rw e (h.0, add-fits rs l h.1 s)
  | inr e ↦ elim (tested (eqb r.chain l.chain)) [ inl f ↦ rw (e, f) (widen-fits r l.seq h.0 s.1, h.1) | inr f ↦ rw (e, f) ((s.0, s.1, s.1), h) ]
]

ranges-fit : (labels : List Label) → Each SmallLabel labels → Each RangeFits (ranges_of labels)
unfolding ranges_of
ranges-fit labels h = go [] labels tt h
  where
    go : (rs : List Range) (ls : List Label) → Each RangeFits rs → Each SmallLabel ls → Each RangeFits (foldl add_label rs ls)
    go rs [] f h = f
    go rs (l ∷ ls) f h = go (add_label rs l) ls (add-fits rs l f h.0) h.1

differences-small : (before : ℕ) (xs : List ℕ) → Wide 4 (differences before xs)
unfolding differences wrapping_less
differences-small before [] = tt
differences-small before (x ∷ xs) = (omega arith, differences-small x xs)

links-fit : (ls : List Link) → GoodLinks (some ls) → length ls ≤ max_records → LinksFit (columns_of ls)
unfolding columns_of
links-fit ls g few = record {
  count = omega (arith, n);
  second = length-map ls _ ∙ sym n;
  third = length-map ls _ ∙ sym n;
  fourth = length-map ls _ ∙ sym n;
  from_chains = differences-small 0 (map (λ l. l.from_chain) ls);
  from_seqs = each_map (λ x. x < 256 ^ 4) (λ l. l.from_seq) ls (each-imp LinkFits (λ l. l.from_seq < 256 ^ 4) ls (λ l f. f.1) g.1);
  to_chains = each_map (λ x. x < 256 ^ 4) (λ l. l.to_chain) ls (each-imp LinkFits (λ l. l.to_chain < 256 ^ 4) ls (λ l f. f.2) g.1);
  to_seqs = each_map (λ x. x < 256 ^ 4) (λ l. l.to_seq) ls (each-imp LinkFits (λ l. l.to_seq < 256 ^ 4) ls (λ l f. f.3) g.1);
}
  where
    n : length (columns_of ls).from_chains ≡ length ls
    n = length-from_chains ls g

pub cover-fits : (links : Option (List Link)) (rs : List Numbered) (n : ℕ) → length rs ≡ n → n ≤ max_records → GoodLinks links
    → stored_ranges (cover_of_group links rs) ≤ max_records → stored_link_count (cover_of_group links rs) ≤ max_records
    → Each (λ r. GoodLabel links r.row.body.label) rs → CoverFitsIn n (cover_of_group links rs)
unfolding label_columns
cover-fits none rs n e few g ranges counted h = tt
cover-fits (some ls) rs n e few g ranges counted h = record {
  chain_count = chains;
  seq_count = seqs;
  chains = each_map (λ x. x < 256 ^ 4) (λ l. l.chain) (labels_in rs) (each-imp SmallLabel (λ l. l.chain < 256 ^ 4) (labels_in rs) (λ l s. s.0) small);
  seqs = each_map (λ x. x < 256 ^ 4) (λ l. l.seq) (labels_in rs) (each-imp SmallLabel (λ l. l.seq < 256 ^ 4) (labels_in rs) (λ l s. s.1) small);
  range_count = omega arith;
  ranges = ranges-fit (labels_in rs) small;
  links = fit;
  short = short-cover _ fit (omega (arith, chains)) (omega (arith, seqs)) ranges counted;
}
  where
    small : Each SmallLabel (labels_in rs)
    small = labels-small ls rs h

    fit : LinksFit (columns_of ls)
    fit = links-fit ls g (omega (arith, length-from_chains ls g))

    chains : length (label_columns (labels_in rs)).chains ≡ n
    chains = length-map (labels_in rs) (λ l. l.chain) ∙ length-labels ls rs h ∙ e

    seqs : length (label_columns (labels_in rs)).seqs ≡ n
    seqs = length-map (labels_in rs) (λ l. l.seq) ∙ length-labels ls rs h ∙ e
