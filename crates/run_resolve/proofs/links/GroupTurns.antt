-- Links sorted group by group: the groups that are left, and one turn of the loop over the groups.
use mathlib.Core.Path.{◌≡◌, refl, sym, ap, ap₂, ◌∙◌}
use mathlib.Core.Bool.{true}
use mathlib.Core.List.{List, [], ◌∷◌, ◌++◌, map, map-append, map-map, append-nil, append_assoc}
use Prim.Native.Nat.{ℕ, zero, suc, ◌+◌, ◌-◌, ◌≤◌, ◌<◌}
use native.Mathlib.Numerals.{add-one}
use native.Mathlib.Nat.{le_trans}
use native.Mathlib.Omega.{arith}
use lib.Dec.{eqb, leb}
use lib.ListN.{length, get_or, take}
use lib.Seq.{slice, slice-cons, slice_empty}
use borrow.Author.Tests.{leb-true, eqb-true, eq-eqb}
use Rattle.lists.specs.Lists.{all, flat, up_from, Each}
use Rattle.lists.specs.Order.{level_above, not_falling}
use Rattle.lists.proofs.Tests.{both, all-each}
use Rattle.lists.proofs.Each.{each-imp, each_map}
use Rattle.lists.proofs.Filters.{filter-all}
use Rattle.lists.proofs.Flat.{flat-ext, up_from-append}
use Rattle.lists.proofs.Pairs.{each-up_from}
use Rattle.cover.specs.Chains.{sort_links}
use Rattle.cover.specs.Places.{row_at}
use Rattle.cleaning.specs.Sheet.{GroupLink, links_of}
use Rattle.cleaning.specs.Survivors.{sort_groups}
use Rattle.cleaning.proofs.GroupLinks.{in_group, links-append, links-none}
use Rattle.run_state.specs.declared.Links.{Links}
use Rattle.run_state.specs.View.{listed, link_at}

-- the links from place i on, sorted, of the groups from g on
unfoldable pub groups_left : Links → ℕ → ℕ → ℕ → List GroupLink
groups_left l count i g = flat (λ k. in_group k (sort_links (links_of (map (link_at l) (up_from i (l.count - i))) k))) (up_from g (count - g))

pub left-start : (l q : Links) (count : ℕ) → sort_groups count (listed (link_at l) l.count) ≡ listed (link_at q) 0 ++ groups_left l count 0 0
unfolding groups_left sort_groups up_from
left-start l q count =
    let z : l.count - 0 ≡ l.count = omega arith in
    let y : count - 0 ≡ count = omega arith in
    rw (z, y)

pub left-done : {t : List GroupLink} (l q : Links) (k count i g : ℕ) → t ≡ listed (link_at q) k ++ groups_left l count i g → count ≤ g → listed (link_at q) k ≡ t
unfolding groups_left up_from
left-done l q k count i g e h = let z : count - g ≡ 0 = omega arith in rw (e, z, append-nil)

-- ── groups that don't fall ───────────────────────────────────────────────────────────────────

pub level-start : (n : ℕ) (groups : List ℕ) → not_falling (take n groups) ≡ true → level_above 0 (slice 0 n groups) ≡ true
unfolding not_falling
level-start n groups e = e

pub level-named : (b g : ℕ) (xs : List ℕ) → b ≡ g → level_above g xs ≡ true → level_above b xs ≡ true
level-named b g xs e h = rw e h

pub level-next : (b g : ℕ) (xs : List ℕ) → b ≡ g → level_above (b + 1) xs ≡ true → level_above (g + 1) xs ≡ true
level-next b g xs e h = rw (← e) h

level-each : (low : ℕ) (xs : List ℕ) → level_above low xs ≡ true → Each (λ x. low ≤ x) xs
unfolding level_above
level-each low [] h = tt
level-each low (x ∷ xs) h =
    let q = both (leb low x) (level_above x xs) h in
    let o = leb-true low x q.0 in
    (o, each-imp (λ y. x ≤ y) (λ y. low ≤ y) xs (λ y k. le_trans o k) (level-each x xs q.1))

each-unmap : (P : ℕ → Type 0) (f : ℕ → ℕ) (is : List ℕ) → Each P (map f is) → Each (λ i. P (f i)) is
each-unmap P f [] h = tt
each-unmap P f (i ∷ is) h = (h.0, each-unmap P f is h.1)

-- ── one group ────────────────────────────────────────────────────────────────────────────────

module _ (l : Links) (long : length l.groups ≡ 1024) (few : l.count ≤ 1024) where
  group-places : (m i : ℕ) → i + m ≤ 1024 → slice i (i + m) l.groups ≡ map (λ p. (link_at l p).group) (up_from i m)
  unfolding link_at up_from
  group-places zero i h = let z : i + 0 ≡ i = omega arith in rw (z, slice_empty i l.groups)
  group-places (suc m) i h =
      let z : i + suc m ≡ suc i + m = omega arith in
      rw (slice-cons i (i + suc m) l.groups 0 (omega arith) (omega arith), z) (ap (λ xs. get_or l.groups i 0 ∷ xs) (group-places m (suc i) (omega arith)))

  groups-at : (P : ℕ → Type 0) (i j : ℕ) → i ≤ j → j ≤ 1024 → Each P (slice i j l.groups) → Each (λ x. P x.group) (map (link_at l) (up_from i (j - i)))
  groups-at P i j h k e =
      let z : i + (j - i) ≡ j = omega arith in
      let q : slice i j l.groups ≡ map (λ p. (link_at l p).group) (up_from i (j - i)) = rw z at (group-places (j - i) i (omega arith)) in
      each_map (λ x. P x.group) (link_at l) (up_from i (j - i)) (each-unmap P (λ p. (link_at l p).group) (up_from i (j - i)) (rw q at e))

  module _ (i j g : ℕ) (h : i ≤ j) (k : j ≤ l.count) (own : all (eqb g) (slice i j l.groups) ≡ true) (level : level_above (g + 1) (slice j l.count l.groups) ≡ true) where
    first : List GroupLink
    first = map (link_at l) (up_from i (j - i))

    rest : List GroupLink
    rest = map (link_at l) (up_from j (l.count - j))

    split : map (link_at l) (up_from i (l.count - i)) ≡ first ++ rest
    unfolding first rest
    split =
        let z : l.count - i ≡ (j - i) + (l.count - j) = omega arith in
        let y : i + (j - i) ≡ j = omega arith in
        ap (λ m. map (link_at l) (up_from i m)) z ∙ ap (map (link_at l)) (up_from-append i (j - i) (l.count - j))
        ∙ map-append (link_at l) (up_from i (j - i)) (up_from (i + (j - i)) (l.count - j))
        ∙ ap (λ p. map (link_at l) (up_from i (j - i)) ++ map (link_at l) (up_from p (l.count - j))) y

    firsts : Each (λ x. g ≡ x.group) first
    unfolding first
    firsts = groups-at (λ x. g ≡ x) i j h (omega arith) (each-imp (λ x. eqb g x ≡ true) (λ x. g ≡ x) (slice i j l.groups) (λ x e. eqb-true g x e) (all-each (eqb g) (slice i j l.groups) own))

    rests : Each (λ x. g + 1 ≤ x.group) rest
    unfolding rest
    rests = groups-at (λ x. g + 1 ≤ x) j l.count k few (level-each (g + 1) (slice j l.count l.groups) level)

    own-links : links_of (first ++ rest) g ≡ map (λ p. (link_at l p).link) (up_from i (j - i))
    unfolding links_of first
    own-links =
        links-append first rest g
        ∙ ap₂ ◌++◌ (ap (map (λ x. x.link)) (filter-all (λ x. eqb x.group g) first (each-imp (λ x. g ≡ x.group) (λ x. eqb x.group g ≡ true) first (λ x e. eq-eqb x.group g (sym e)) firsts)))
        (links-none rest g (each-imp (λ x. g + 1 ≤ x.group) (λ x. x.group ≡ g → ⊥) rest (λ x o e. omega (arith, o, e)) rests))
        ∙ append-nil (map (λ x. x.link) first) ∙ map-map (λ x. x.link) (link_at l) (up_from i (j - i))

    other-links : (n : ℕ) → g < n → links_of (first ++ rest) n ≡ links_of rest n
    other-links n o =
        links-append first rest n
        ∙ ap (λ xs. xs ++ links_of rest n) (links-none first n (each-imp (λ x. g ≡ x.group) (λ x. x.group ≡ n → ⊥) first (λ x e f. omega (arith, e, f, o)) firsts))

    left-turn : (count : ℕ) → g < count
        → groups_left l count i g ≡ in_group g (sort_links (map (λ p. (link_at l p).link) (up_from i (j - i)))) ++ groups_left l count j (g + 1)
    unfolding groups_left up_from rest
    left-turn count o =
        let m = count - (g + 1) in
        let z : count - g ≡ suc m = omega arith in
        let f : ℕ → List GroupLink = λ n. in_group n (sort_links (links_of (map (link_at l) (up_from i (l.count - i))) n)) in
        let f' : ℕ → List GroupLink = λ n. in_group n (sort_links (links_of rest n)) in
        ap (λ n. flat f (up_from g n)) z
        ∙ ap₂ ◌++◌ (ap (λ ks. in_group g (sort_links ks)) (ap (λ xs. links_of xs g) split ∙ own-links))
        (flat-ext f f' (up_from (suc g) m)
        (each-imp (λ n. (suc g ≤ n) × (n < suc g + m)) (λ n. f n ≡ f' n) (up_from (suc g) m)
        (λ n q. ap (λ ks. in_group n (sort_links ks)) (ap (λ xs. links_of xs n) split ∙ other-links n q.0)) (each-up_from (suc g) m))
        ∙ after m f' refl)
      where
        after : (m : ℕ) (f : ℕ → List GroupLink) → f ≡ (λ n. in_group n (sort_links (links_of rest n)))
            → flat f (up_from (suc g) m) ≡ flat (λ n. in_group n (sort_links (links_of rest n))) (up_from (g + 1) m)
        after m f e = rw (e, add-one)

links_span : (l : Links) (ps : List ℕ) → map (row_at l.from.chains l.from.seqs l.to.chains l.to.seqs) ps ≡ map (λ p. (link_at l p).link) ps
unfolding link_at row_at
links_span l ps = refl

pub left_next : {t : List GroupLink} (l out q : Links) (k r count i j b g : ℕ) → length l.groups ≡ 1024 → l.count ≤ 1024 → t ≡ listed (link_at out) k ++ groups_left l count i g
    → g < count → b ≡ g → i ≤ j → j ≤ l.count → all (eqb b) (slice i j l.groups) ≡ true → level_above (b + 1) (slice j l.count l.groups) ≡ true
    → listed (link_at q) r ≡ listed (link_at out) k ++ in_group b (sort_links (map (row_at l.from.chains l.from.seqs l.to.chains l.to.seqs) (up_from i (j - i))))
    → t ≡ listed (link_at q) r ++ groups_left l count j (g + 1)
left_next l out q k r count i j b g long few e o n h m own level f =
    let os = listed (link_at out) k in
    let s = in_group g (sort_links (map (λ p. (link_at l p).link) (up_from i (j - i)))) in
    let f' : listed (link_at q) r ≡ os ++ s = rw n at (rw (links_span l (up_from i (j - i))) at f) in
    e ∙ ap (λ xs. os ++ xs) (left-turn l long few i j g h m (rw n at own) (rw n at level) count o)
    ∙ sym (append_assoc os s (groups_left l count j (g + 1))) ∙ ap (λ xs. xs ++ groups_left l count j (g + 1)) (sym f')
