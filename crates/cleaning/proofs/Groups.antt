-- The groups of sources that follow one another: every source's group is there and has links where the source has a cover, and they are as many as
-- the different group numbers.
use mathlib.Core.Path.{◌≡◌, refl, ap, sym, ◌∙◌}
use mathlib.Core.Bool.{Bool, false}
use mathlib.Core.List.{List, [], ◌∷◌, map, foldl}
use mathlib.Core.Logic.{◌⊎◌, inl, inr}
use mathlib.Core.Option.{Option, none, some}
use Prim.Native.Nat.{ℕ, zero, suc, ◌≤◌, ◌<◌}
use native.Mathlib.Omega.{arith}
use native.Mathlib.Nat.{not-suc-le-zero, le_of_suc-le-suc}
use lib.Dec.{eqb, ltb}
use lib.ListN.{length, get_or, length-append}
use borrow.Author.Tests.{eqb-true, eqb-false, ne_eqb, ltb-true, ltb-false}
use Rattle.columns.specs.Limits.{Served}
use Rattle.lists.specs.Lists.{mem, add, once, Each}
use Rattle.lists.proofs.Tests.{tested}
use Rattle.lists.proofs.Each.{each-imp}
use Rattle.lists.proofs.Once.{add-new, each-add, add-grows}
use Rattle.cover.specs.Chains.{Link}
use Rattle.cleaning.specs.Source.{SourceCover, Source, is_there}
use Rattle.cleaning.specs.Archive.{Group, links_in, group_of, join_links, join_group, join_at, add_source, groups_of}
use Rattle.cleaning.specs.Writing.{no_group}
use Rattle.cleaning.proofs.Taken.{FollowsLast, Followed}

-- ── joining a group at its number ────────────────────────────────────────────────────────────

module _ (h : Group) where
  length-join-in : (n : ℕ) (gs : List Group) → n < length gs → length (join_at n gs h) ≡ length gs
  unfolding join_at
  length-join-in n [] l = absurd (not-suc-le-zero l)
  length-join-in zero (g ∷ gs) l = refl
  length-join-in (suc n) (g ∷ gs) l = ap suc (length-join-in n gs (le_of_suc-le-suc l))

  length-join-end : (gs : List Group) → length (join_at (length gs) gs h) ≡ suc (length gs)
  unfolding join_at
  length-join-end [] = refl
  length-join-end (g ∷ gs) = ap suc (length-join-end gs)

  get_or-join-in : (n : ℕ) (gs : List Group) → n < length gs → get_or (join_at n gs h) n no_group ≡ join_group (get_or gs n no_group) h
  unfolding join_at
  get_or-join-in n [] l = absurd (not-suc-le-zero l)
  get_or-join-in zero (g ∷ gs) l = refl
  get_or-join-in (suc n) (g ∷ gs) l = get_or-join-in n gs (le_of_suc-le-suc l)

  get_or-join-end : (gs : List Group) → get_or (join_at (length gs) gs h) (length gs) no_group ≡ h
  unfolding join_at
  get_or-join-end [] = refl
  get_or-join-end (g ∷ gs) = get_or-join-end gs

  get_or-join-other : (n m : ℕ) (gs : List Group) → (m ≡ n → ⊥) → m < length gs → get_or (join_at n gs h) m no_group ≡ get_or gs m no_group
  unfolding join_at
  get_or-join-other n m [] d l = absurd (not-suc-le-zero l)
  get_or-join-other zero zero (g ∷ gs) d l = absurd (d refl)
  get_or-join-other zero (suc m) (g ∷ gs) d l = refl
  get_or-join-other (suc n) zero (g ∷ gs) d l = refl
  get_or-join-other (suc n) (suc m) (g ∷ gs) d l = get_or-join-other n m gs (λ e. d (ap suc e)) (le_of_suc-le-suc l)

-- ── a source's group ─────────────────────────────────────────────────────────────────────────

abbrev there : List Group → ℕ → Bool
there gs n = is_there (get_or gs n no_group).links

-- the group of a source is among the groups, and has links where the source has a cover
abbrev pub Covered : List Group → Source → Type 0
Covered gs s = (s.group < length gs) × (there gs s.group ≡ is_there s.cover)

-- the source's group is the last one, or a new one after it
record Next (gs : List Group) (s : Source) : Type 0 where
  pub within : s.group ≤ length gs
  pub last : length gs ≤ suc s.group
  pub cover : s.group < length gs → there gs s.group ≡ is_there s.cover

-- the groups of sources whose last is `before`
abbrev GroupsUpTo : Option Source → List Group → Type 0
GroupsUpTo none gs = gs ≡ []
GroupsUpTo (some r) gs = (length gs ≡ suc r.group) × Covered gs r

next : (before : Option Source) (gs : List Group) (s : Source) → GroupsUpTo before gs → FollowsLast before s → Next gs s
next none gs s e f = rw e (record { within = omega arith; last = omega arith; cover = λ l. absurd (not-suc-le-zero l) })
next (some r) gs s e f = elim f.group [
  | inl g ↦ record { within = omega (arith, e.0); last = omega (arith, e.0); cover = λ l. rw g (e.1.1 ∙ sym (f.cover g)) }
  | inr g ↦ record { within = omega (arith, e.0); last = omega (arith, e.0); cover = λ l. absurd (omega (arith, e.0)) }
]

there-links : (c : Option SourceCover) → is_there (links_in c) ≡ is_there c
there-links none = refl
there-links (some c) = refl

there-join : (a : Option (List Link)) (c : Option SourceCover) → is_there a ≡ is_there c → is_there (join_links a (links_in c)) ≡ is_there c
there-join none c e = e
there-join (some l) none e = refl
there-join (some l) (some c) e = refl

module _ (gs : List Group) (s : Source) (n : Next gs s) where
  -- whether the source's group is there already
  old-or-new : (s.group < length gs) ⊎ (s.group ≡ length gs)
  old-or-new = elim (tested (ltb s.group (length gs))) [
    | inl e ↦ inl (ltb-true s.group (length gs) e)
    | inr e ↦ inr (omega (arith, n.within, ltb-false s.group (length gs) e))
  ]

  grown : (length (add_source gs s) ≡ suc s.group) × Covered (add_source gs s) s
  unfolding add_source
  grown = elim old-or-new [
    | inl l ↦ let k = length-join-in (group_of s) s.group gs l in
        (omega (arith, n.last), (omega arith, rw (get_or-join-in (group_of s) s.group gs l) (there-join (get_or gs s.group no_group).links s.cover (n.cover l))))
    | inr e ↦ let k = length-join-end (group_of s) gs in
        rw e (k, (omega arith, rw (get_or-join-end (group_of s) gs) (there-links s.cover)))
  ]

  covered-add : (q : Source) → Covered gs q → Covered (add_source gs s) q
  unfolding add_source
  covered-add q c = (
    omega (arith, grown.0, n.last, c.0),
    elim (tested (eqb q.group s.group)) [
      | inl e ↦ let g = eqb-true q.group s.group e in
          rw g (grown.1.1 ∙ sym (n.cover (omega (arith, c.0))) ∙ rw g at c.1)
      | inr e ↦ rw (get_or-join-other (group_of s) s.group q.group gs (eqb-false q.group s.group e) c.0) c.1
    ],
  )

-- ── the groups of all sources ────────────────────────────────────────────────────────────────

covered-fold : (K : ℕ) (served : Served K) (before : Option Source) (gs : List Group) (ss : List Source) → GroupsUpTo before gs → Followed K before ss
    → (q : Source) → Covered gs q → Covered (foldl add_source gs ss) q
covered-fold K served before gs [] g f q c = c
covered-fold K served before gs (s ∷ ss) g f q c =
    let n = next before gs s g f.1 in
    covered-fold K served (some s) (add_source gs s) ss (grown gs s n) f.2 q (covered-add gs s n q c)

each-covered-from : (K : ℕ) (served : Served K) (before : Option Source) (gs : List Group) (ss : List Source) → GroupsUpTo before gs → Followed K before ss
    → Each (Covered (foldl add_source gs ss)) ss
each-covered-from K served before gs [] g f = tt
each-covered-from K served before gs (s ∷ ss) g f =
    let n = grown gs s (next before gs s g f.1) in
    (covered-fold K served (some s) (add_source gs s) ss n f.2 s n.1, each-covered-from K served (some s) (add_source gs s) ss n f.2)

pub each-covered : (K : ℕ) (served : Served K) (ss : List Source) → Followed K none ss → Each (Covered (groups_of ss)) ss
unfolding groups_of
each-covered K served ss f = each-covered-from K served none [] ss refl f

-- ── how many ─────────────────────────────────────────────────────────────────────────────────

pub others-not-mem : (n : ℕ) (xs : List ℕ) → Each (λ x. n ≡ x → ⊥) xs → mem n xs ≡ false
unfolding mem
others-not-mem n [] h = refl
others-not-mem n (x ∷ xs) h = rw (ne_eqb n x h.0) (others-not-mem n xs h.1)

fewer-groups : (K : ℕ) (served : Served K) (before : Option Source) (gs : List Group) (ss : List Source) (ns : List ℕ) → GroupsUpTo before gs → Followed K before ss
    → length gs ≤ length ns → Each (λ n. n < length gs) ns → length (foldl add_source gs ss) ≤ length (foldl add ns (map (λ s. s.group) ss))
fewer-groups K served before gs [] ns g f l h = l
fewer-groups K served before gs (s ∷ ss) ns g f l h =
    let n = next before gs s g f.1 in
    let m = grown gs s n in
    fewer-groups K served (some s) (add_source gs s) ss (add ns s.group) m f.2 (elim (old-or-new gs s n) [
      | inl o ↦ omega (arith, m.0, add-grows ns s.group)
      | inr e ↦ rw (
        add-new ns s.group
            (rw e (others-not-mem (length gs) ns (each-imp (λ x. x < length gs) (λ x. length gs ≡ x → ⊥) ns (λ x b c. omega arith) h))),
        length-append ns (s.group ∷ []),
      ) (omega (arith, m.0))
    ])
    (each-add (λ n. n < length (add_source gs s)) ns s.group
    (each-imp (λ x. x < length gs) (λ x. x < length (add_source gs s)) ns (λ x b. omega (arith, m.0, n.last)) h) (omega (arith, m.0)))

pub groups-once : (K : ℕ) (served : Served K) (ss : List Source) → Followed K none ss → length (groups_of ss) ≤ length (once (map (λ s. s.group) ss))
unfolding groups_of once
groups-once K served ss f = fewer-groups K served none [] ss [] refl f (omega arith) tt
