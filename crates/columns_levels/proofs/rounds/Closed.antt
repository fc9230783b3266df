-- The keys from a number on end up closed under parents: then they are all that the number reaches.
use Rattle.std.specs.Prelude.{None, Some, Option}
use mathlib.Core.Path.{◌≡◌, refl, sym, ◌∙◌, ap, subst}
use mathlib.Core.Bool.{Bool, true, false, not, ◌||◌, or-false, or-true, false≢true, true≢false}
use mathlib.Core.Logic.{inl, inr}
use mathlib.Core.List.Memᴰ
use mathlib.Core.List.{List, [], ◌∷◌, ◌++◌, Memᴰ}
use Prim.Native.Nat.{ℕ, zero, suc, ◌≤◌, ◌<◌, ◌+◌}
use native.Mathlib.Numerals.{add-one}
use native.Mathlib.Omega.{arith}
use lib.Dec.{eqb, leb}
use lib.ListN.{length, take, get_or, get_or-append}
use lib.Seq.{length-take-le, get_or-take, take-suc}
use borrow.Author.Tests.{eq-eqb, eqb-true, eqb-false, lt-leb}
use Rattle.lists.specs.Lists.{mem, filter}
use Rattle.lists.proofs.Tests.{tested, not-both}
use Rattle.lists.proofs.Once.{mem-append, mem-folded, mem-first, mem-later}
use Rattle.lists.proofs.Rising.{mem-filter}
use Rattle.lists.proofs.Slices.{take_none}
use Rattle.columns.specs.Ancestor.{Reaches, here, up}
use Rattle.arrays.specs.table.Table.{Table, Keys, add_cap, adds_cap}
use Rattle.columns_levels.specs.frontier.Frontier.{parents_in, hits_in}
use Rattle.columns_levels.proofs.frontier.Slots.{parents-in}
use Rattle.columns_levels.proofs.frontier.Fresh.{new_from, made_all}
use Rattle.columns_levels.specs.rounds.Closure.{All, Grown, Free, Apart, Answer}

-- ── members ──────────────────────────────────────────────────────────────────────────────────

mem_is : (x : ℕ) (l : List ℕ) → mem x l ≡ true → Memᴰ x l
unfolding mem
mem_is x [] e = absurd (false≢true e)
mem_is x (y ∷ ys) e = elim (tested (eqb x y)) [
  | inl f ↦ Memᴰ.head (eqb-true x y f)
  | inr f ↦ let h : mem x ys ≡ true = rw f at e in Memᴰ.tail (mem_is x ys h)
]

is_mem : (x : ℕ) (l : List ℕ) → Memᴰ x l → mem x l ≡ true
unfolding mem
is_mem x [] m = absurd (Memᴰ.not-nil m)
is_mem x (y ∷ ys) m = elim (Memᴰ.cases_cons m) [
  | inl e ↦ rw (eq-eqb x y e)
  | inr n ↦ rw (is_mem x ys n) (or-true (eqb x y))
]

-- each member stands somewhere
record Place (x : ℕ) (l : List ℕ) : Type 0 where
  pub at : ℕ
  pub low : at < length l
  pub is_x : get_or l at 0 ≡ x

place : (x : ℕ) (l : List ℕ) → mem x l ≡ true → Place x l
unfolding mem
place x [] e = absurd (false≢true e)
place x (y ∷ ys) e = elim (tested (eqb x y)) [
  | inl f ↦ record { at = 0; low = omega arith; is_x = sym (eqb-true x y f) }
  | inr f ↦ let h : mem x ys ≡ true = rw f at e in let p = place x ys h in record { at = suc p.at; low = let q = p.low in omega arith; is_x = p.is_x }
]

mem-at : (l : List ℕ) (i : ℕ) → i < length l → mem (get_or l i 0) l ≡ true
unfolding mem
mem-at [] i h = absurd (omega arith)
mem-at (y ∷ ys) zero h = rw (eq-eqb y y refl)
mem-at (y ∷ ys) (suc i) h = rw (mem-at ys i (omega arith)) (or-true (eqb (get_or ys i 0) y))

only_one : (a x : ℕ) → mem x (a ∷ []) ≡ true → x ≡ a
unfolding mem
only_one a x e = eqb-true x a (sym (or-false (eqb x a)) ∙ e)

mem-none : (x : ℕ) → mem x [] ≡ true → ⊥
unfolding mem
mem-none x e = false≢true e

-- ── reaching ─────────────────────────────────────────────────────────────────────────────────

reach-one : (p : ℕ → List ℕ) (a v x : ℕ) → Reaches p a v → mem x (p v) ≡ true → Reaches p a x
reach-one p a v x here e = up (mem_is x (p v) e) here
reach-one p a v x (up {b = b} m r) e = up m (reach-one p b v x r e)

-- a list that has the parents of each of its numbers has all that they reach
closed_all : (p : ℕ → List ℕ) (l : List ℕ) → ((v x : ℕ) → mem v l ≡ true → mem x (p v) ≡ true → mem x l ≡ true) → (v x : ℕ) → mem v l ≡ true → Reaches p v x → mem x l ≡ true
closed_all p l h v x e here = e
closed_all p l h v x e (up {b = b} m r) = closed_all p l h b x (h v b e (is_mem b (p v) m)) r

all_closed : (p : ℕ → List ℕ) (a : ℕ) (targets l : List ℕ) (i : ℕ) → Grown p a targets l i → length l ≤ i → All p a l
all_closed p a targets l i w h = record { only = w.only; every = λ x r. closed_all p l step a x w.start r }
  where
    step : (v x : ℕ) → mem v l ≡ true → mem x (p v) ≡ true → mem x l ≡ true
    step v x e f = let q = place v l e in w.closed q.at (let z = q.low in omega arith) x (ap (λ (u : ℕ). mem x (p u)) q.is_x ∙ f)

-- ── keys put in ──────────────────────────────────────────────────────────────────────────────

-- a new key is one of those put in
from_one : (c : ℕ) (ys : List ℕ) (q x : ℕ) → mem x (add_cap c ys q) ≡ true → mem x ys ≡ false → x ≡ q
unfolding add_cap
from_one c ys q x e f = elim (tested (mem q ys || leb c (length ys))) [
  | inl g ↦ absurd (not-both (rw g at e) f)
  | inr g ↦ only_one q x (let k : mem x (ys ++ (q ∷ [])) ≡ true = rw g at e in let j : mem x ys || mem x (q ∷ []) ≡ true = sym (mem-append x ys (q ∷ [])) ∙ k in rw f at j)
]

from_all : (c : ℕ) (ys ps : List ℕ) (x : ℕ) → mem x (adds_cap c ys ps) ≡ true → mem x ys ≡ false → mem x ps ≡ true
unfolding adds_cap mem
from_all c ys [] x e f = absurd (not-both e f)
from_all c ys (q ∷ ps) x e f = elim (tested (mem x (add_cap c ys q))) [
  | inl g ↦ rw (eq-eqb x q (from_one c ys q x g f))
  | inr g ↦ rw (from_all c (add_cap c ys q) ps x e g) (or-true (eqb x q))
]

-- the keys after ps were put in: nothing else, nothing lost, and all of ps
record Put (c : ℕ) (ys ps l : List ℕ) : Type 0 where
  pub kept : (x : ℕ) → mem x ys ≡ true → mem x (adds_cap c ys ps) ≡ true
  pub all : (x : ℕ) → mem x ps ≡ true → mem x (adds_cap c ys ps) ≡ true
  pub within : length (adds_cap c ys ps) ≤ hits_in (adds_cap c ys ps) l
  pub front : (j : ℕ) → j < length ys → get_or (adds_cap c ys ps) j 0 ≡ get_or ys j 0

mem-new : (x : ℕ) (ys ps : List ℕ) → mem x ps ≡ true → mem x ys ≡ false → mem x (new_from ys [] ps) ≡ true
unfolding new_from
mem-new x ys ps e f = mem-folded [] (filter (λ n. not (mem n ys)) ps) x (mem-filter x (λ n. not (mem n ys)) ps ∙ rw (e, f))

put-keys : (c : ℕ) (l ys ps : List ℕ) → ((x : ℕ) → mem x ps ≡ true → mem x l ≡ true) → length l ≤ c → length ys ≤ hits_in ys l → Put c ys ps l
put-keys c l ys ps i h w =
    let m = made_all c ys l ys (λ x. refl) h ps i w in
    let a : adds_cap c ys ps ≡ ys ++ new_from ys [] ps = m.0 in
    record {
      kept = λ x e. rw a (mem-append x ys (new_from ys [] ps) ∙ rw e);
      all = λ x e. rw a (mem-append x ys (new_from ys [] ps) ∙ in_one x e);
      within = rw a m.1;
      front = λ j q. rw a (get_or-append ys (new_from ys [] ps) 0 j q);
    }
  where
    in_one : (x : ℕ) → mem x ps ≡ true → mem x ys || mem x (new_from ys [] ps) ≡ true
    in_one x e = elim (tested (mem x ys)) [ inl f ↦ rw f | inr f ↦ rw (mem-new x ys ps e f) (or-true (mem x ys)) ]

-- ── spread ───────────────────────────────────────────────────────────────────────────────────

pub first-within : (a : ℕ) (l : List ℕ) → length (a ∷ []) ≤ hits_in (a ∷ []) (a ∷ l)
unfolding hits_in mem
first-within a l = rw (eq-eqb a a refl) (omega arith)

pub grown-first : (p : ℕ → List ℕ) (a : ℕ) (targets : List ℕ) → Grown p a targets (a ∷ []) 0
grown-first p a targets = record {
  only = λ x e. subst (λ (y : ℕ). Reaches p a y) (sym (only_one a x e)) here;
  start = mem-first a [];
  closed = λ j h x e. absurd (omega (arith, h));
  within = first-within a targets;
}

module _ (K first kind a i n r : ℕ) (offsets targets keys keys' : List ℕ) (w : Grown (parents_in K first kind offsets targets) a targets (take n keys) i)
    (k : Keys keys keys' n r (parents_in K first kind offsets targets (get_or keys i 0))) (h : i < n) (u : n ≤ length keys) (o : length targets < length keys) where
  many : length (take n keys) ≡ n
  many = length-take-le n keys u

  same_at : get_or (take n keys) i 0 ≡ get_or keys i 0
  same_at = get_or-take n keys i 0 h

  put_in : Put (length keys) (take n keys) (parents_in K first kind offsets targets (get_or keys i 0)) (a ∷ targets)
  put_in =
      put-keys (length keys) (a ∷ targets) (take n keys) (parents_in K first kind offsets targets (get_or keys i 0))
      (λ x e. mem-later x a targets (parents-in K first kind offsets targets (get_or keys i 0) x e)) (omega arith) w.within

  was-reached : Reaches (parents_in K first kind offsets targets) a (get_or keys i 0)
  was-reached = w.only (get_or keys i 0) (ap (λ (y : ℕ). mem y (take n keys)) (sym same_at) ∙ mem-at (take n keys) i (omega (arith, many)))

  only' : (x : ℕ) → mem x (adds_cap (length keys) (take n keys) (parents_in K first kind offsets targets (get_or keys i 0))) ≡ true → Reaches (parents_in K first kind offsets targets) a x
  only' x e = elim (tested (mem x (take n keys))) [
    | inl f ↦ w.only x f
    | inr f ↦ reach-one (parents_in K first kind offsets targets) a (get_or keys i 0) x was-reached
        (from_all (length keys) (take n keys) (parents_in K first kind offsets targets (get_or keys i 0)) x e f)
  ]

  closed' : (j : ℕ) → j < i + 1 → (x : ℕ) → mem x (parents_in K first kind offsets targets
      (get_or (adds_cap (length keys) (take n keys) (parents_in K first kind offsets targets (get_or keys i 0))) j 0)) ≡ true
      → mem x (adds_cap (length keys) (take n keys) (parents_in K first kind offsets targets (get_or keys i 0))) ≡ true
  closed' j q x e =
      let f : mem x (parents_in K first kind offsets targets (get_or (take n keys) j 0)) ≡ true =
      ap (λ (y : ℕ). mem x (parents_in K first kind offsets targets y)) (sym (put_in.front j (omega (arith, many, q)))) ∙ e in
      elim (tested (eqb j i)) [
        | inl d ↦ put_in.all x (ap (λ (y : ℕ). mem x (parents_in K first kind offsets targets y)) (sym (ap (λ (y : ℕ). get_or (take n keys) y 0) (eqb-true j i d) ∙ same_at)) ∙ f)
        | inr d ↦ let z = eqb-false j i d in put_in.kept x (w.closed j (omega (arith, q, z)) x f)
      ]

  grown-turn : Grown (parents_in K first kind offsets targets) a targets (take r keys') (i + 1)
  grown-turn = rw k.are (record { only = only'; start = put_in.kept a w.start; closed = closed'; within = put_in.within })

pub turn-grown : (K first kind a i n r : ℕ) (offsets targets keys keys' keys₀ : List ℕ) → Grown (parents_in K first kind offsets targets) a targets (take n keys) i
    → Keys keys keys' n r (parents_in K first kind offsets targets (get_or keys i 0)) → length keys ≡ length keys₀ → length targets < length keys₀ → i < n → n ≤ length keys
    → Grown (parents_in K first kind offsets targets) a targets (take r keys') (i + 1)
turn-grown K first kind a i n r offsets targets keys keys' keys₀ w k e o h u = grown-turn K first kind a i n r offsets targets keys keys' w k h u (omega (arith, e))

pub reach-done : (p : ℕ → List ℕ) (a n i : ℕ) (targets keys links heads : List ℕ) → Grown p a targets (take n keys) i → n ≤ i → Table keys links heads n → All p a (take n keys)
reach-done p a n i targets keys links heads w h t = all_closed p a targets (take n keys) i w (let l = length-take-le n keys t.upto in omega (arith, l))

-- ── common ───────────────────────────────────────────────────────────────────────────────────

pub common-hit : (ks os : List ℕ) (i m n : ℕ) (t : Bool) → i < m → m ≤ length os → t ≡ mem (get_or os i 0) (take n ks) → t ≡ true → Apart (Some (get_or os i 0)) (take n ks) (take m os)
common-hit ks os i m n t h u e f =
    (sym e ∙ f, ap (λ (y : ℕ). mem y (take m os)) (sym (get_or-take m os i 0 h)) ∙ mem-at (take m os) i (let l = length-take-le m os u in omega (arith, l)))

pub free-first : (ks os : List ℕ) → Free ks (take 0 os)
free-first ks os = record { none = λ x e. absurd (mem-none x (sym (ap (λ (o : List ℕ). mem x o) (take_none os)) ∙ e)) }

pub free-turn : (ks os : List ℕ) (i m n : ℕ) (t : Bool) → Free (take n ks) (take i os) → t ≡ mem (get_or os i 0) (take n ks) → t ≡ false → i < m → m ≤ length os → Free (take n ks) (take (i + 1) os)
free-turn ks os i m n t w e f h u = record {
  none = λ x d. go x (sym (mem-append x (take i os) (get_or os i 0 ∷ [])) ∙ ap (λ (o : List ℕ). mem x o) (sym (ap (λ (j : ℕ). take j os) (add-one i) ∙ take-suc os i 0 (omega arith))) ∙ d);
}
  where
    go : (x : ℕ) → mem x (take i os) || mem x (get_or os i 0 ∷ []) ≡ true → mem x (take n ks) ≡ false
    go x d = elim (tested (mem x (take i os))) [
      | inl y ↦ w.none x y
      | inr y ↦ let z : mem x (get_or os i 0 ∷ []) ≡ true = rw y at d in ap (λ (v : ℕ). mem v (take n ks)) (only_one (get_or os i 0) x z) ∙ sym e ∙ f
    ]

pub free-done : (ks os : List ℕ) (i m n : ℕ) → Free (take n ks) (take i os) → m ≤ i → i ≤ m → Apart None (take n ks) (take m os)
free-done ks os i m n w h k = let z : m ≡ i = omega arith in rw z w.none

pub shared-found : (r : Option ℕ) (p : ℕ → List ℕ) (a b : ℕ) (ks os : List ℕ) → Apart r ks os → All p b ks → All p a os → Answer r p a b
shared-found (Some x) p a b ks os d s t = (t.only x d.1, s.only x d.0)
shared-found None p a b ks os d s t = λ x u v. true≢false (sym (s.every x v) ∙ d x (t.every x u))

pub planted : (p : ℕ → List ℕ) (a n : ℕ) (targets keys keys' : List ℕ) → take n keys' ≡ add_cap (length keys) (take 0 keys) a → length targets < length keys → Grown p a targets (take n keys') 0
unfolding add_cap mem
planted p a n targets keys keys' e h = rw (e, take_none keys, lt-leb (length keys) 0 (omega arith)) (grown-first p a targets)
