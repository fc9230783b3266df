-- The groups of a cleaned archive are good: depths in order, links rising and in their bits, and no more links than the sources have.
use mathlib.Core.Path.{◌≡◌, refl}
use mathlib.Core.Bool.{true}
use mathlib.Core.List.{List, [], ◌∷◌, map, foldl}
use mathlib.Core.Logic.{inl, inr}
use mathlib.Core.Option.{Option, none, some}
use Prim.Native.Nat.{ℕ, zero, suc, ◌+◌, ◌≤◌}
use native.Mathlib.Omega.{arith}
use lib.Dec.{ltb}
use lib.ListN.{length, length-append}
use borrow.Author.Tests.{ltb-true, ltb-false, leb-true, le-leb}
use Rattle.columns.specs.Limits.{Served}
use Rattle.lists.specs.Lists.{sum, Each}
use Rattle.lists.proofs.Tests.{tested}
use Rattle.lists.proofs.Each.{each_append, each_map, each-imp, each_all, each-mem, mem-each}
use Rattle.columns.specs.Building.{Depth, depth_ok}
use Rattle.cover.specs.Chains.{Link, link_less, add_link, sort_links}
use Rattle.cover.proofs.Links.{sort-mem, sort-rises}
use Rattle.archive.specs.Fits.{DepthFits}
use Rattle.cleaning.specs.Source.{SourceCover, Source, link_count}
use Rattle.cleaning.specs.Archive.{Group, links_in, group_of, join_depth, join_links, join_group, join_at, add_source, groups_of}
use Rattle.cleaning.specs.Summary.{sorted, group_summary}
use Rattle.cleaning.proofs.Good.{LinkFits, GoodLinks, GoodGroup, link_number}
use Rattle.lists.proofs.Sums.{sum-map, sum-le}
use Rattle.cleaning.proofs.Taken.{Sound}
use Rattle.cleaning.proofs.Fitting.{CoverFitting, Fitting}

-- ── a property that joining keeps ────────────────────────────────────────────────────────────

module _ (P : Group → Type 0) (keeps : (g h : Group) → P g → P h → P (join_group g h)) where
  each-join : (n : ℕ) (gs : List Group) (h : Group) → Each P gs → P h → Each P (join_at n gs h)
  unfolding join_at
  each-join n [] h e p = (p, tt)
  each-join zero (g ∷ gs) h e p = (keeps g h e.0 p, e.1)
  each-join (suc n) (g ∷ gs) h e p = (e.0, each-join n gs h e.1 p)

  each-fold : (gs : List Group) (ss : List Source) → Each P gs → Each (λ s. P (group_of s)) ss → Each P (foldl add_source gs ss)
  unfolding add_source
  each-fold gs [] e p = e
  each-fold gs (s ∷ ss) e p = each-fold (add_source gs s) ss (each-join s.group gs (group_of s) e p.0) p.1

-- ── depths and links ─────────────────────────────────────────────────────────────────────────

abbrev GoodDepth : Option Depth → Type 0
GoodDepth d = (depth_ok d ≡ true) × DepthFits d

join-depth : (d e : Option Depth) → GoodDepth d → GoodDepth e → GoodDepth (join_depth d e)
join-depth none e h g = (refl, tt)
join-depth (some d) none h g = (refl, tt)
join-depth (some d) (some e) h g =
    let p = leb-true d.least d.greatest h.0 in
    let q = leb-true e.least e.greatest g.0 in
    elim (tested (ltb e.least d.least)) [
      | inl a ↦ let x = ltb-true e.least d.least a in elim (tested (ltb d.greatest e.greatest)) [
        | inl b ↦ rw (a, b) (le-leb e.least e.greatest q, g.1)
        | inr b ↦ rw (a, b) (le-leb e.least d.greatest (omega arith), (g.1.0, h.1.1))
      ]
      | inr a ↦ let x = ltb-false e.least d.least a in elim (tested (ltb d.greatest e.greatest)) [
        | inl b ↦ rw (a, b) (le-leb d.least e.greatest (omega (arith, ltb-true d.greatest e.greatest b)), (h.1.0, g.1.1))
        | inr b ↦ rw (a, b) (le-leb d.least d.greatest p, h.1)
      ]
    ]

-- links, in any order, within their bits
abbrev LinksIn32 : Option (List Link) → Type 0
LinksIn32 none = Unit {0}
LinksIn32 (some ls) = Each LinkFits ls

join-links : (a b : Option (List Link)) → LinksIn32 a → LinksIn32 b → LinksIn32 (join_links a b)
join-links none b h g = tt
join-links (some l) none h g = tt
join-links (some l) (some m) h g = each_append LinkFits l m h g

sorted-good : (a : Option (List Link)) → LinksIn32 a → GoodLinks (sorted a)
sorted-good none h = tt
sorted-good (some ls) h = (sort-rises ls, mem-each LinkFits (sort_links ls) (λ l m. each-mem LinkFits ls l h ((sort-mem l ls).0 m)))

cover-links : (rows : ℕ) (c : Option SourceCover) → CoverFitting rows c → LinksIn32 (links_in c)
cover-links rows none h = tt
cover-links rows (some c) h = h.2

-- ── groups ───────────────────────────────────────────────────────────────────────────────────

abbrev Unsorted : Group → Type 0
Unsorted g = GoodDepth g.depth × LinksIn32 g.links

pub good-groups : (K : ℕ) (served : Served K) (ss : List Source) → Each (λ s. Sound K s × Fitting s) ss → Each GoodGroup (map group_summary (groups_of ss))
unfolding groups_of
good-groups K served ss h =
    each_map GoodGroup group_summary (groups_of ss)
    (each-imp Unsorted (λ g. GoodGroup (group_summary g)) (groups_of ss) (λ g u. (u.0.0, u.0.1, sorted-good g.links u.1))
    (each-fold Unsorted (λ g h p q. (join-depth g.depth h.depth p.0 q.0, join-links g.links h.links p.1 q.1)) [] ss tt
    (each-imp (λ s. Sound K s × Fitting s) (λ s. Unsorted (group_of s)) ss
    (λ s b. ((b.0.depth, b.1.depth), cover-links (length s.rows) s.cover b.1.cover)) h)))

-- ── how many links ───────────────────────────────────────────────────────────────────────────

abbrev links_of_group : Group → ℕ
links_of_group g = link_number g.links

few-joined : (a b : Option (List Link)) → link_number (join_links a b) ≤ link_number a + link_number b
few-joined none b = omega arith
few-joined (some l) none = omega arith
few-joined (some l) (some m) = omega (arith, length-append l m)

few-at : (n : ℕ) (gs : List Group) (h : Group) → sum links_of_group (join_at n gs h) ≤ sum links_of_group gs + links_of_group h
unfolding join_at sum
few-at n [] h = omega arith
few-at zero (g ∷ gs) h = omega (arith, few-joined g.links h.links)
few-at (suc n) (g ∷ gs) h = omega (arith, few-at n gs h)

few-source : (c : Option SourceCover) → link_number (links_in c) ≡ link_count c
few-source none = refl
few-source (some c) = refl

few-fold : (gs : List Group) (ss : List Source) → sum links_of_group (foldl add_source gs ss) ≤ sum links_of_group gs + sum (λ s. link_count s.cover) ss
unfolding add_source sum
few-fold gs [] = omega arith
few-fold gs (s ∷ ss) = omega (arith, few-fold (add_source gs s) ss, few-at s.group gs (group_of s), few-source s.cover)

few-add : (ks : List Link) (l : Link) → length (add_link ks l) ≤ suc (length ks)
unfolding add_link
few-add [] l = omega arith
few-add (k ∷ ks) l = elim (tested (link_less k l)) [
  | inl e ↦ rw e (omega (arith, few-add ks l))
  | inr e ↦ rw e (elim (tested (link_less l k)) [ inl f ↦ rw f (omega arith) | inr f ↦ rw f (omega arith) ])
]

pub few-sorted : (ks ls : List Link) → length (foldl add_link ks ls) ≤ length ks + length ls
few-sorted ks [] = omega arith
few-sorted ks (l ∷ ls) = omega (arith, few-sorted (add_link ks l) ls, few-add ks l)

fewer-links : (a : Option (List Link)) → link_number (sorted a) ≤ link_number a
unfolding sort_links
fewer-links none = omega arith
fewer-links (some ls) = omega (arith, few-sorted [] ls)

pub few-links : (ss : List Source) → sum links_of_group (map group_summary (groups_of ss)) ≤ sum (λ s. link_count s.cover) ss
unfolding groups_of sum
few-links ss =
    omega (
      arith,
      sum-map links_of_group group_summary (groups_of ss),
      few-fold [] ss,
      sum-le (λ g. links_of_group (group_summary g)) links_of_group (groups_of ss)
          (each_all (λ g. links_of_group (group_summary g) ≤ links_of_group g) (λ g. fewer-links g.links) (groups_of ss)),
    )
