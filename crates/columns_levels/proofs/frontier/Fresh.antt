-- The keys that the parents of a level add are the parents that were not visited, each once.
use mathlib.Core.Path.{◌≡◌, refl, sym, ◌∙◌, ap}
use mathlib.Core.Bool.{Bool, true, false, not, ◌||◌, or-true, false≢true}
use mathlib.Core.Logic.{inl, inr}
use mathlib.Core.List.{List, [], ◌∷◌, ◌++◌, foldl, append_assoc, append-nil}
use Prim.Native.Nat.{ℕ, suc, ◌≤◌, ◌<◌, ◌+◌}
use native.Mathlib.Omega.{arith}
use lib.Dec.{eqb}
use lib.ListN.{length, take, length-append}
use borrow.Author.Tests.{eq-eqb, eqb-true, lt-leb}
use Rattle.lists.specs.Lists.{mem, add, once, filter, flat}
use Rattle.lists.specs.Order.{sort}
use Rattle.lists.proofs.Tests.{tested}
use Rattle.lists.proofs.Once.{mem-append, add-there, add-new, mem-first, mem-last}
use Rattle.columns.specs.Walk.{level}
use Rattle.arrays.specs.table.Table.{add_cap, adds_cap}
use Rattle.columns_levels.specs.frontier.Frontier.{one, hits_in}

-- ── how many entries are keys ────────────────────────────────────────────────────────────────

pub hits-le : (ys l : List ℕ) → hits_in ys l ≤ length l
unfolding hits_in
hits-le ys [] = omega arith
hits-le ys (z ∷ zs) = elim (tested (mem z ys)) [ inl e ↦ rw e (let q = hits-le ys zs in omega arith) | inr e ↦ rw e (let q = hits-le ys zs in omega arith) ]

hits-mono : (p : ℕ) (ys l : List ℕ) → hits_in ys l ≤ hits_in (ys ++ (p ∷ [])) l
unfolding hits_in
hits-mono p ys [] = omega arith
hits-mono p ys (z ∷ zs) = elim (tested (mem z ys)) [
  | inl e ↦ rw (mem-last z p ys, e) (let q = hits-mono p ys zs in omega arith)
  | inr e ↦ rw e (let q = hits-mono p ys zs in omega arith)
]

hits_more : (p : ℕ) (ys l : List ℕ) → mem p l ≡ true → mem p ys ≡ false → hits_in ys l < hits_in (ys ++ (p ∷ [])) l
unfolding mem hits_in
hits_more p ys [] e f = absurd (false≢true e)
hits_more p ys (z ∷ zs) e f = elim (tested (eqb p z)) [
  | inl g ↦ let w = eqb-true p z g in rw (← w, mem-last p p ys, f, eq-eqb p p refl) (let q = hits-mono p ys zs in omega arith)
  | inr g ↦ let h : mem p zs ≡ true = rw g at e in rw (mem-last z p ys) (grown (mem z ys) (eqb z p) (hits_more p ys zs h f))
]
  where
    grown : (a b : Bool) {i j : ℕ} → i < j → one a + i < one (a || b) + j
    grown true b h = omega arith
    grown false true h = omega arith
    grown false false h = omega arith

-- ── the new keys ─────────────────────────────────────────────────────────────────────────────

-- the numbers of ps that were not visited and are not among ns, put behind ns
unfoldable pub new_from : List ℕ → List ℕ → List ℕ → List ℕ
new_from visited ns ps = foldl add ns (filter (λ n. not (mem n visited)) ps)

new_none : (visited ns : List ℕ) → new_from visited ns [] ≡ ns
unfolding new_from filter
new_none visited ns = refl

module _ (visited ns : List ℕ) (p : ℕ) (ps : List ℕ) where
  new-visited : mem p visited ≡ true → new_from visited ns (p ∷ ps) ≡ new_from visited ns ps
  unfolding new_from filter
  new-visited e = rw e

  new-there : mem p visited ≡ false → mem p ns ≡ true → new_from visited ns (p ∷ ps) ≡ new_from visited ns ps
  unfolding new_from filter
  new-there e f = rw (e, add-there ns p f)

  new-more : mem p visited ≡ false → mem p ns ≡ false → new_from visited ns (p ∷ ps) ≡ new_from visited (ns ++ (p ∷ [])) ps
  unfolding new_from filter
  new-more e f = rw (e, add-new ns p f)

adds_none : (c : ℕ) (ys : List ℕ) → adds_cap c ys [] ≡ ys
unfolding adds_cap
adds_none c ys = refl

adds-old : (c : ℕ) (ys : List ℕ) (x : ℕ) (xs : List ℕ) → mem x ys ≡ true → adds_cap c ys (x ∷ xs) ≡ adds_cap c ys xs
unfolding adds_cap add_cap
adds-old c ys x xs e = rw e

adds-new : (c : ℕ) (ys : List ℕ) (x : ℕ) (xs : List ℕ) → mem x ys ≡ false → length ys < c → adds_cap c ys (x ∷ xs) ≡ adds_cap c (ys ++ (x ∷ [])) xs
unfolding adds_cap add_cap
adds-new c ys x xs e h = rw (e, lt-leb c (length ys) h)

-- the keys after each of ps was put in: those before, then the new ones, and there was room for all
pub record Made (c : ℕ) (ks bound visited ps ns : List ℕ) : Type 0 where
  pub are : adds_cap c (ks ++ ns) ps ≡ ks ++ new_from visited ns ps
  pub within : length (ks ++ new_from visited ns ps) ≤ hits_in (ks ++ new_from visited ns ps) bound

rest_in : (p : ℕ) (ps l : List ℕ) → ((x : ℕ) → mem x (p ∷ ps) ≡ true → mem x l ≡ true) → (x : ℕ) → mem x ps ≡ true → mem x l ≡ true
unfolding mem
rest_in p ps l h x e = h x (rw e (or-true (eqb x p)))

length_last : (p : ℕ) (l : List ℕ) → length (l ++ (p ∷ [])) ≡ suc (length l)
length_last p l = length-append l (p ∷ []) ∙ omega arith

module _ (c : ℕ) (ks l visited : List ℕ) (s : (x : ℕ) → mem x ks ≡ mem x visited) (h : length l ≤ c) where
  pub made : (ps ns : List ℕ) → ((x : ℕ) → mem x ps ≡ true → mem x l ≡ true) → length (ks ++ ns) ≤ hits_in (ks ++ ns) l → Made c ks l visited ps ns
  made [] ns i w = record { are = rw (adds_none, new_none); within = rw new_none w }
  made (p ∷ ps) ns i w =
      let t = rest_in p ps l i in
      elim (tested (mem p visited)) [
        | inl e ↦
            let m = made ps ns t w in
            let f : mem p (ks ++ ns) ≡ true = mem-append p ks ns ∙ rw (s p, e) in
            record { are = rw (new-visited visited ns p ps e) (adds-old c (ks ++ ns) p ps f ∙ m.are); within = rw (new-visited visited ns p ps e) m.within }
        | inr e ↦ elim (tested (mem p ns)) [
          | inl g ↦
              let m = made ps ns t w in
              let f : mem p (ks ++ ns) ≡ true = mem-append p ks ns ∙ rw (g, or-true (mem p ks)) in
              record { are = rw (new-there visited ns p ps e g) (adds-old c (ks ++ ns) p ps f ∙ m.are); within = rw (new-there visited ns p ps e g) m.within }
          | inr g ↦
              let f : mem p (ks ++ ns) ≡ false = mem-append p ks ns ∙ rw (s p, e, g) in
              let more = hits_more p (ks ++ ns) l (i p (mem-first p ps)) f in
              let le = hits-le ((ks ++ ns) ++ (p ∷ [])) l in
              let a : (ks ++ ns) ++ (p ∷ []) ≡ ks ++ (ns ++ (p ∷ [])) = append_assoc ks ns (p ∷ []) in
              let w' : length (ks ++ (ns ++ (p ∷ []))) ≤ hits_in (ks ++ (ns ++ (p ∷ []))) l = rw (← a, length_last p (ks ++ ns)) (omega (arith, w, more)) in
              let m = made ps (ns ++ (p ∷ [])) t w' in
              record {
                are = rw (new-more visited ns p ps e g) (adds-new c (ks ++ ns) p ps f (omega (arith, w, more, le, h)) ∙ ap (λ (o : List ℕ). adds_cap c o ps) a ∙ m.are);
                within = rw (new-more visited ns p ps e g) m.within;
              }
        ]
      ]

  -- from no new ones
  pub made_all : (ps : List ℕ) → ((x : ℕ) → mem x ps ≡ true → mem x l ≡ true) → length ks ≤ hits_in ks l
      → (adds_cap c ks ps ≡ ks ++ new_from visited [] ps) × (length (ks ++ new_from visited [] ps) ≤ hits_in (ks ++ new_from visited [] ps) l)
  made_all ps i w =
      let n : ks ++ [] ≡ ks = append-nil ks in
      let m = made ps [] i (rw n w) in
      (ap (λ (o : List ℕ). adds_cap c o ps) (sym n) ∙ m.are, m.within)

-- the new keys in order, cut to what is left of the limit, are the level
pub level-new : (p : ℕ → List ℕ) (left : ℕ) (visited frontier : List ℕ) → take left (sort (new_from visited [] (flat p frontier))) ≡ level p left visited frontier
unfolding level new_from once
level-new p left visited frontier = refl
