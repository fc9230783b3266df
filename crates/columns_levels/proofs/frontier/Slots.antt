-- The parents of a number in stored targets, and the keys after they were put in.
use mathlib.Core.Path.{◌≡◌, refl, sym, ◌∙◌, ap}
use mathlib.Core.Bool.{Bool, true, false, cond, ◌||◌, or-true, false≢true}
use mathlib.Core.List.{List, [], ◌∷◌, ◌++◌}
use Prim.Native.Nat.{ℕ, ◌≤◌, ◌<◌, ◌+◌, ◌-◌, ◌*◌, min, ◌^◌}
use native.Mathlib.Nat.{mul-le-mul_left, mul-le-mul_right}
use native.Mathlib.Numerals.{add-one}
use native.Mathlib.Omega.{arith}
use lib.Dec.{ltb}
use lib.ListN.{length, take, drop, get_or, take-append-drop, get_or-eq_default}
use lib.Seq.{slice, slice-cons, take_all}
use borrow.Author.Tests.{le-ltb, lt-ltb}
use mir.Syntax.{w64}
use mir.Val.{Fits}
use Rattle.lists.specs.Lists.{mem, flat}
use Rattle.lists.proofs.Once.{mem-append}
use Rattle.lists.proofs.Slices.{slice-none}
use Rattle.columns.specs.EdgeSet.{cut}
use Rattle.columns.specs.Questions.{list_of}
use Rattle.columns.proofs.Offsets.{cut-length, cut_at}
use Rattle.arrays.specs.table.Table.{add_cap, adds_cap, Keys, Table}
use Rattle.arrays.proofs.table.Chains.{keys-are}
use Rattle.columns_levels.specs.frontier.Frontier.{OfKinds, parents_in}

-- ── slots ────────────────────────────────────────────────────────────────────────────────────

clamped : (a b : ℕ) (l : List ℕ) → slice a (min b (length l)) l ≡ slice a b l
clamped a b l = go (ltb b (length l)) refl
  where
    go : (t : Bool) → ltb b (length l) ≡ t → slice a (min b (length l)) l ≡ slice a b l
    go true e = let z : min b (length l) ≡ b = omega (arith, borrow.Author.Tests.ltb-true b (length l) e) in ap (λ (j : ℕ). slice a j l) z
    go false e =
        let h = borrow.Author.Tests.ltb-false b (length l) e in
        let z : min b (length l) ≡ length l = omega arith in
        ap (λ (j : ℕ). slice a j l) z ∙ ap (λ (j : List ℕ). drop a j) (take_all (length l) l (omega arith) ∙ sym (take_all b l h))

-- ── the parents of a number ──────────────────────────────────────────────────────────────────

module _ (K first kind v : ℕ) (offsets targets : List ℕ) where
  before : v < first → parents_in K first kind offsets targets v ≡ []
  unfolding parents_in list_of
  before h = rw (lt-ltb v first h)

  after : first ≤ v → length offsets ≤ K * (v - first) + kind + 1 → parents_in K first kind offsets targets v ≡ []
  unfolding parents_in list_of
  after h k = rw (le-ltb v first h) (get_or-eq_default (cut offsets targets) [] {n = K * (v - first) + kind} (rw cut-length (omega arith)))

  within : first ≤ v → (i s a b : ℕ) → i ≡ v - first → s ≡ K * i + kind → s + 1 < length offsets → a ≡ get_or offsets s 0 → b ≡ min (get_or offsets (s + 1) 0) (length targets)
      → slice a b targets ≡ parents_in K first kind offsets targets v
  unfolding parents_in list_of
  within h i s a b e f k g j = rw (le-ltb v first h, ← e, ← f, cut_at offsets targets s k, ← g, j) (clamped a (get_or offsets (s + 1) 0) targets)

  module _ (keys : List ℕ) (n : ℕ) where
    stays : n ≤ length keys → parents_in K first kind offsets targets v ≡ [] → Keys keys keys n n (parents_in K first kind offsets targets v)
    unfolding adds_cap
    stays u e = record { size = refl; more = omega arith; upto = u; are = rw e }

    pub stays-before : n ≤ length keys → v < first → Keys keys keys n n (parents_in K first kind offsets targets v)
    stays-before u h = stays u (before h)

    pub stays-far : (m : ℕ) → OfKinds K kind → n ≤ length keys → first ≤ v → m ≡ length offsets → m ≤ v - first → Keys keys keys n n (parents_in K first kind offsets targets v)
    stays-far m o u h e k = stays u (after h (omega (arith, mul-le-mul_right (v - first) o.served.some)))

    pub stays_after : (i : ℕ) → n ≤ length keys → first ≤ v → i ≡ v - first → length offsets ≤ K * i + kind + 1 → Keys keys keys n n (parents_in K first kind offsets targets v)
    stays_after i u h e k = stays u (after h (omega (arith, ap (λ (x : ℕ). K * x) e)))

    pub expanded : {keys' : List ℕ} {r : ℕ} (i a b e : ℕ) → Keys keys keys' n r (slice a b targets) → first ≤ v → i ≡ v - first → K * i + kind + 1 < length offsets
        → a ≡ get_or offsets (K * i + kind) 0 → e ≡ get_or offsets (K * i + kind + 1) 0 → b ≡ min e (length targets)
        → Keys keys keys' n r (parents_in K first kind offsets targets v)
    expanded i a b e x h d k f p g = rw (within h i (K * i + kind) a b d refl k f (rw p at g)) at x

-- a number below as many as there are offsets has a slot whose place is a number of 64 bits, and so has its place in bytes
module _ (K kind v first i m : ℕ) (offsets : List ℕ) (o : OfKinds K kind) (e : i ≡ v - first) (f : m ≡ length offsets) (h : v - first < m) (g : length offsets * 8 < 2 ^ 63) where
  below : i < length offsets
  below = omega arith

  few : K * i + K ≤ 3 * length offsets
  few = omega (arith, mul-le-mul_left K below, mul-le-mul_right (length offsets) o.served.few)

  pub row_fits : Fits w64 (K * i)
  row_fits = record { fits = omega (arith, few) }

  pub slot-fits : Fits w64 (K * i + kind)
  slot-fits = record { fits = omega (arith, few, o.below) }

  pub next_fits : Fits w64 (K * i + kind + 1)
  next_fits = record { fits = omega (arith, few, o.below) }

-- parents are among the targets
or_yes : (a b : Bool) {t : Bool} → (a ≡ true → t ≡ true) → (b ≡ true → t ≡ true) → a || b ≡ true → t ≡ true
or_yes true b f g e = f refl
or_yes false b f g e = g e

mem-none : (x : ℕ) (l : List ℕ) → mem x [] ≡ true → mem x l ≡ true
unfolding mem
mem-none x l e = absurd (false≢true e)

mem-take : (x k : ℕ) (l : List ℕ) → mem x (take k l) ≡ true → mem x l ≡ true
mem-take x k l e = sym (ap (λ (m : List ℕ). mem x m) (take-append-drop k l)) ∙ mem-append x (take k l) (drop k l) ∙ rw e

mem-drop : (x k : ℕ) (l : List ℕ) → mem x (drop k l) ≡ true → mem x l ≡ true
mem-drop x k l e = sym (ap (λ (m : List ℕ). mem x m) (take-append-drop k l)) ∙ mem-append x (take k l) (drop k l) ∙ rw (e, or-true (mem x (take k l)))

mem-slot : (x : ℕ) (offsets t : List ℕ) (s : ℕ) → mem x (get_or (cut offsets t) s []) ≡ true → mem x t ≡ true
mem-slot x offsets t s e = go (ltb (s + 1) (length offsets)) refl
  where
    go : (b : Bool) → ltb (s + 1) (length offsets) ≡ b → mem x t ≡ true
    go true f =
        let q = rw (cut_at offsets t s (borrow.Author.Tests.ltb-true (s + 1) (length offsets) f)) at e in
        mem-take x (get_or offsets (s + 1) 0) t (mem-drop x (get_or offsets s 0) (take (get_or offsets (s + 1) 0) t) q)
    go false f =
        let h = borrow.Author.Tests.ltb-false (s + 1) (length offsets) f in
        let z : get_or (cut offsets t) s [] ≡ [] = get_or-eq_default (cut offsets t) [] {n = s} (rw cut-length (omega arith)) in
        mem-none x t (rw z at e)

pub parents-in : (K first kind : ℕ) (offsets targets : List ℕ) (v x : ℕ) → mem x (parents_in K first kind offsets targets v) ≡ true → mem x targets ≡ true
unfolding parents_in list_of
parents-in K first kind offsets targets v x e = go (ltb v first) e
  where
    go : (b : Bool) → mem x (cond b [] (get_or (cut offsets targets) (K * (v - first) + kind) [])) ≡ true → mem x targets ≡ true
    go true f = mem-none x targets f
    go false f = mem-slot x offsets targets (K * (v - first) + kind) f

pub all-parents-in : (K first kind : ℕ) (offsets targets lvl : List ℕ) (x : ℕ) → mem x (flat (parents_in K first kind offsets targets) lvl) ≡ true → mem x targets ≡ true
all-parents-in K first kind offsets targets [] x e = mem-none x targets e
all-parents-in K first kind offsets targets (v ∷ vs) x e =
    or_yes (mem x (parents_in K first kind offsets targets v)) (mem x (flat (parents_in K first kind offsets targets) vs)) (parents-in K first kind offsets targets v x)
    (all-parents-in K first kind offsets targets vs x) (sym (mem-append x (parents_in K first kind offsets targets v) (flat (parents_in K first kind offsets targets) vs)) ∙ e)

-- ── the parents of many ──────────────────────────────────────────────────────────────────────

adds-append : (c : ℕ) (ys ps qs : List ℕ) → adds_cap c ys (ps ++ qs) ≡ adds_cap c (adds_cap c ys ps) qs
unfolding adds_cap
adds-append c ys [] qs = refl
adds-append c ys (p ∷ ps) qs = adds-append c (add_cap c ys p) ps qs

module _ {t : List ℕ} (p : ℕ → List ℕ) (c : ℕ) (i hi : ℕ) (list keys : List ℕ) (n : ℕ) (e : t ≡ adds_cap c (take n keys) (flat p (slice i hi list))) where
  collect-all : hi ≤ i → take n keys ≡ t
  unfolding adds_cap
  collect-all h = rw (e, slice-none i hi list h)

  pub collect-one : (keys' : List ℕ) (r : ℕ) → Keys keys keys' n r (p (get_or list i 0)) → length keys ≡ c → i < hi → hi ≤ length list → t ≡ adds_cap c (take r keys') (flat p (slice (i + 1) hi list))
  collect-one keys' r x q h k = rw (e, slice-cons i hi list 0, adds-append, ← q, x.are, add-one)

pub collect-done : (p : ℕ → List ℕ) (keys₀ keys ps list links₀ heads₀ links heads : List ℕ) (n m i hi : ℕ)
    → adds_cap (length keys₀) (take n keys₀) ps ≡ adds_cap (length keys₀) (take m keys) (flat p (slice i hi list))
    → hi ≤ i → length keys ≡ length keys₀ → Table keys₀ links₀ heads₀ n → Table keys links heads m → Keys keys₀ keys n m ps
collect-done p keys₀ keys ps list links₀ heads₀ links heads n m i hi e h q t u =
    keys-are keys₀ keys ps n m (collect-all p (length keys₀) i hi list keys m e h) t.upto u.upto q
