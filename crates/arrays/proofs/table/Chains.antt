-- The buckets of a table hold its keys, and still do after one more was put in.
use Rattle.std.proofs.Common.{◌≡◌, ℕ, zero, suc, ◌+◌, ◌-◌, ◌%◌, ◌<◌, ◌≤◌, Bool, true, false, cond, not, ◌||◌, eqb, leb, List, [], ◌∷◌, ◌++◌, length, get_or, take, set, replicate, sym, refl, ap, ◌∙◌, mod-lt, add-one, arith, length-append, length-set, length-take-le, get_or-set_other, get_or-take, take-suc, get_or-set_same, take-take, take-suc-set, eq-eqb, ne_eqb, eqb-true, le-leb}
use mathlib.Core.Bool.{or-false, or-true}
use lib.ListN.{length-replicate}
use lib.Seq.{slice, slice-cons}
use borrow.Author.Tests.{eqb-false, lt-leb}
use Rattle.lists.specs.Lists.{mem}
use Rattle.lists.proofs.Once.{mem-last, eqb-sym}
use Rattle.lists.proofs.Slices.{slice-none}
use Rattle.arrays.specs.table.Table.{last_place, newest, Down, Table, add_cap, adds_cap, Keys}

-- ── down a bucket ────────────────────────────────────────────────────────────────────────────

-- the place is the same for every bound that reaches the bucket's end
fuel : (n : ℕ) (keys links : List ℕ) (x f g i : ℕ) → Down links n → i ≤ n → i ≤ f → i ≤ g → newest f keys links i x ≡ newest g keys links i x
unfolding newest
fuel n keys links x zero zero i d h a b = refl
fuel n keys links x zero (suc g) zero d h a b = refl
fuel n keys links x zero (suc g) (suc j) d h a b = absurd (omega arith)
fuel n keys links x (suc f) zero zero d h a b = refl
fuel n keys links x (suc f) zero (suc j) d h a b = absurd (omega arith)
fuel n keys links x (suc f) (suc g) zero d h a b = refl
fuel n keys links x (suc f) (suc g) (suc j) d h a b =
    let l = d.low j (omega arith) in
    ap (λ (t : ℕ). cond (eqb (get_or keys j 0) x) (suc j) t) (fuel n keys links x f g (get_or links j 0) d (omega arith) (omega arith) (omega arith))

module _ {t : ℕ} (keys links : List ℕ) (i x : ℕ) (e : t ≡ newest i keys links i x) where
  pub bucket-end : i ≤ 0 → 0 ≡ t
  unfolding newest
  bucket-end h = let z : i ≡ 0 = omega arith in rw (e, z)

  split : 0 < i → t ≡ cond (eqb (get_or keys (i - 1) 0) x) i (newest (i - 1) keys links (get_or links (i - 1) 0) x)
  unfolding newest
  split h = let z : i ≡ suc (i - 1) = omega arith in e ∙ ap (λ (k : ℕ). newest k keys links k x) z
      ∙ ap (λ (k : ℕ). cond (eqb (get_or keys (i - 1) 0) x) k (newest (i - 1) keys links (get_or links (i - 1) 0) x)) (sym z)

  pub bucket-hit : 0 < i → get_or keys (i - 1) 0 ≡ x → i ≡ t
  bucket-hit h f = sym (split h ∙ rw (eq-eqb (get_or keys (i - 1) 0) x f))

  pub bucket-on : (n r : ℕ) → 0 < i → (get_or keys (i - 1) 0 ≡ x → ⊥) → Down links n → i ≤ n → r ≡ get_or links (i - 1) 0 → t ≡ newest r keys links r x
  bucket-on n r h f d k q =
      let l = d.low (i - 1) (omega arith) in
      split h ∙ rw (ne_eqb (get_or keys (i - 1) 0) x f, q) (fuel n keys links x (i - 1) (get_or links (i - 1) 0) (get_or links (i - 1) 0) d (omega arith) (omega arith) (omega arith))

module _ (links : List ℕ) (n i r : ℕ) (d : Down links n) (h : 0 < i) (k : i ≤ n) (e : r ≡ get_or links (i - 1) 0) where
  pub falls : r < i
  falls = let l = d.low (i - 1) (omega arith) in omega arith

  pub falls-in : r ≤ n
  falls-in = let l = falls in omega arith

-- ── finding a key's last place ────────────────────────────────────────────────────────────────

last-in : (keys : List ℕ) (n x : ℕ) → last_place keys n x ≤ n
unfolding last_place
last-in keys zero x = omega arith
last-in keys (suc i) x = go (eqb (get_or keys i 0) x) (last-in keys i x)
  where
    go : (b : Bool) → last_place keys i x ≤ i → cond b (suc i) (last_place keys i x) ≤ suc i
    go true l = omega arith
    go false l = omega arith

module _ (keys links heads : List ℕ) (n h top : ℕ) (t : Table keys links heads n) (e : top ≡ get_or heads h 0) where
  pub top_in : top ≤ n
  top_in = rw e (t.top h)

  pub found : (x r : ℕ) → h ≡ x % length heads → r ≡ newest top keys links top x → r ≡ last_place keys n x
  found x r f g = g ∙ rw (e, f) (t.holds x)

  pub found_in : (x r : ℕ) → h ≡ x % length heads → r ≡ newest top keys links top x → r ≤ n
  found_in x r f g = rw (found x r f g) (last-in keys n x)

-- a key that is there has a place
pub place-there : (keys : List ℕ) (n x : ℕ) → n ≤ length keys → not (eqb (last_place keys n x) 0) ≡ mem x (take n keys)
unfolding last_place mem
place-there keys zero x h = refl
place-there keys (suc i) x h =
    rw (take-suc keys i 0 h, mem-last x (get_or keys i 0) (take i keys), ← place-there keys i x (omega arith), eqb-sym x (get_or keys i 0))
    (go (eqb (get_or keys i 0) x) (last_place keys i x))
  where
    go : (b : Bool) (k : ℕ) → not (eqb (cond b (suc i) k) 0) ≡ (not (eqb k 0) || b)
    go true k = rw (or-true (not (eqb k 0)), ne_eqb (suc i) 0 (λ q. absurd (omega (arith, q))))
    go false k = sym (or-false (not (eqb k 0)))

pub found-there : (keys links heads : List ℕ) (n x place : ℕ) → Table keys links heads n → place ≡ last_place keys n x → not (eqb place 0) ≡ mem x (take n keys)
found-there keys links heads n x place t e = rw e (place-there keys n x t.upto)

-- two columns with the same front have the same last places
pub same-places : (a b : List ℕ) (n x : ℕ) → n ≤ length a → n ≤ length b → take n a ≡ take n b → last_place a n x ≡ last_place b n x
unfolding last_place
same-places a b zero x h k e = refl
same-places a b (suc i) x h k e =
    let s : take i a ≡ take i b = sym (take-take i (suc i) a (omega arith)) ∙ ap (take i) e ∙ take-take i (suc i) b (omega arith) in
    let g : get_or a i 0 ≡ get_or b i 0 = sym (get_or-take (suc i) a i 0 (omega arith)) ∙ ap (λ (l : List ℕ). get_or l i 0) e ∙ get_or-take (suc i) b i 0 (omega arith) in
    rw (g, same-places a b i x (omega arith) (omega arith) s)

-- ── one more key ─────────────────────────────────────────────────────────────────────────────

-- what is written at n changes no bucket below it, and no place below it
same-bucket : (n : ℕ) (keys links : List ℕ) (a b x f i : ℕ) → Down links n → i ≤ n → newest f (set keys n a) (set links n b) i x ≡ newest f keys links i x
unfolding newest
same-bucket n keys links a b x zero i d h = refl
same-bucket n keys links a b x (suc f) zero d h = refl
same-bucket n keys links a b x (suc f) (suc j) d h =
    let l = d.low j (omega arith) in
    rw (
      get_or-set_other keys n j a 0 (λ q. absurd (omega (arith, q))),
      get_or-set_other links n j b 0
          (λ q. absurd (omega (arith, q))),
      same-bucket n keys links a b x f (get_or links j 0) d (omega arith),
    )

same_place : (keys : List ℕ) (n a m x : ℕ) → m ≤ n → last_place (set keys n a) m x ≡ last_place keys m x
unfolding last_place
same_place keys n a zero x h = refl
same_place keys n a (suc i) x h = rw (get_or-set_other keys n i a 0 (λ q. absurd (omega (arith, q))), same_place keys n a i x (omega arith))

data Same (a b : ℕ) : Type 0 where
  same : a ≡ b → Same a b
  other : (a ≡ b → ⊥) → Same a b

is_same : (a b : ℕ) → Same a b
is_same a b = go (eqb a b) refl
  where
    go : (t : Bool) → eqb a b ≡ t → Same a b
    go true e = same (eqb-true a b e)
    go false e = other (eqb-false a b e)

module _ (keys links heads : List ℕ) (n k : ℕ) (t : Table keys links heads n) (w : n < length keys) where
  heads' : List ℕ
  heads' = set heads (k % length heads) (n + 1)

  below : k % length heads < length heads
  below = mod-lt k t.some

  down' : Down (set links n (get_or heads (k % length heads) 0)) (n + 1)
  down' = record { low = λ j h. go j h (is_same j n) }
    where
      go : (j : ℕ) → j < n + 1 → Same j n → get_or (set links n (get_or heads (k % length heads) 0)) j 0 ≤ j
      go j h (same e) = rw (e, get_or-set_same links n (get_or heads (k % length heads) 0) 0 (let v = t.even in omega arith)) (t.top (k % length heads))
      go j h (other e) = rw (get_or-set_other links n j (get_or heads (k % length heads) 0) 0 e) (t.down.low j (omega (arith, e)))

  holds' : (x : ℕ) → newest (get_or (set heads (k % length heads) (n + 1)) (x % length heads) 0) (set keys n k) (set links n (get_or heads (k % length heads) 0))
      (get_or (set heads (k % length heads) (n + 1)) (x % length heads) 0) x
      ≡ last_place (set keys n k) (n + 1) x
  unfolding newest last_place
  holds' x = elim (is_same (x % length heads) (k % length heads)) [
    | same e ↦ rw (
      e,
      get_or-set_same heads (k % length heads) (n + 1) 0 below,
      add-one,
      get_or-set_same links n (get_or heads (k % length heads) 0) 0 (let v = t.even in omega arith),
      same-bucket n keys links k (get_or heads (k % length heads) 0) x n (get_or heads (k % length heads) 0) t.down (t.top (k % length heads)),
      fuel n keys links x n (get_or heads (k % length heads) 0) (get_or heads (k % length heads) 0) t.down (t.top (k % length heads)) (t.top (k % length heads)) (omega arith),
      ← e,
      t.holds x,
      same_place keys n k n x (omega arith),
    )
    | other e ↦ rw (
      get_or-set_other heads (k % length heads) (x % length heads) (n + 1) 0 e,
      same-bucket n keys links k (get_or heads (k % length heads) 0) x (get_or heads (x % length heads) 0) (get_or heads (x % length heads) 0) t.down (t.top (x % length heads)),
      t.holds x,
      add-one,
      get_or-set_same keys n k 0 w,
      ne_eqb k x (λ q. e (ap (λ (y : ℕ). y % length heads) (sym q))),
      same_place keys n k n x (omega arith),
    )
  ]

  top' : (h : ℕ) → get_or (set heads (k % length heads) (n + 1)) h 0 ≤ n + 1
  top' h = elim (is_same h (k % length heads)) [
    | same e ↦ rw (e, get_or-set_same heads (k % length heads) (n + 1) 0 below) (omega arith)
    | other e ↦ rw (get_or-set_other heads (k % length heads) h (n + 1) 0 e) (let q = t.top h in omega arith)
  ]

  pub put_in : (h m : ℕ) → h ≡ k % length heads → m ≡ n + 1 → Table (set keys n k) (set links n (get_or heads h 0)) (set heads h m) (n + 1)
  put_in h m e f = rw (e, f) (record {
    some = rw length-set t.some;
    upto = rw length-set (omega arith);
    even = rw (length-set, length-set) t.even;
    down = down';
    top = top';
    holds = rw length-set holds';
  })

-- ── adding ───────────────────────────────────────────────────────────────────────────────────

module _ (keys : List ℕ) (n x : ℕ) {b : Bool} (u : n ≤ length keys) (e : b ≡ mem x (take n keys)) where
  pub add-there : b ≡ true → take n keys ≡ add_cap (length keys) (take n keys) x
  unfolding add_cap
  add-there f = rw (← e, f)

  pub add-full : b ≡ false → length keys ≤ n → take n keys ≡ add_cap (length keys) (take n keys) x
  unfolding add_cap
  add-full f h = rw (← e, f, length-take-le n keys u, le-leb (length keys) n h)

  pub add-new : (keys' : List ℕ) → b ≡ false → n < length keys → keys' ≡ set keys n x → take (n + 1) keys' ≡ add_cap (length keys) (take n keys) x
  unfolding add_cap
  add-new keys' f h g = rw (g, ← e, f, length-take-le n keys u, lt-leb (length keys) n h, add-one, take-suc-set keys n x h)

-- no key is lost
grows_one : (c : ℕ) (ys : List ℕ) (x : ℕ) → length ys ≤ length (add_cap c ys x)
unfolding add_cap
grows_one c ys x = go (mem x ys || leb c (length ys))
  where
    go : (b : Bool) → length ys ≤ length (cond b ys (ys ++ (x ∷ [])))
    go true = omega arith
    go false = rw (length-append ys (x ∷ [])) (omega arith)

grows_all : (c : ℕ) (ys xs : List ℕ) → length ys ≤ length (adds_cap c ys xs)
unfolding adds_cap
grows_all c ys [] = omega arith
grows_all c ys (x ∷ xs) = let p = grows_one c ys x in let q = grows_all c (add_cap c ys x) xs in omega arith

pub keys-are : (keys keys' xs : List ℕ) (n r : ℕ) → take r keys' ≡ adds_cap (length keys) (take n keys) xs → n ≤ length keys → r ≤ length keys' → length keys' ≡ length keys → Keys keys keys' n r xs
keys-are keys keys' xs n r e h k q =
    let p = grows_all (length keys) (take n keys) xs in
    let o = length-take-le n keys h in
    let s = length-take-le r keys' k in
    let z = ap length e in
    record { size = q; more = omega (arith, p, o, s, z); upto = k; are = e }

-- a list of keys, one after the other
module _ {t : List ℕ} (c : ℕ) (ys : List ℕ) (i b : ℕ) (src : List ℕ) (e : t ≡ adds_cap c ys (slice i b src)) where
  all_in : b ≤ i → ys ≡ t
  unfolding adds_cap
  all_in h = rw (e, slice-none i b src h)

  pub one_in : {zs : List ℕ} (d : ℕ) → zs ≡ add_cap d ys (get_or src i 0) → d ≡ c → i < b → b ≤ length src → t ≡ adds_cap c zs (slice (i + 1) b src)
  unfolding adds_cap
  one_in d f q h k = rw (e, slice-cons i b src 0, f, q, add-one)

pub list-in : (keys₀ keys ps src links₀ heads₀ links heads : List ℕ) (n m i b : ℕ)
    → adds_cap (length keys₀) (take n keys₀) ps ≡ adds_cap (length keys₀) (take m keys) (slice i b src) → b ≤ i → length keys ≡ length keys₀
    → Table keys₀ links₀ heads₀ n → Table keys links heads m → Keys keys₀ keys n m ps
list-in keys₀ keys ps src links₀ heads₀ links heads n m i b e h q t u = keys-are keys₀ keys ps n m (all_in (length keys₀) (take m keys) i b src e h) t.upto u.upto q

-- ── no key ───────────────────────────────────────────────────────────────────────────────────

no_place : (keys links : List ℕ) (x i : ℕ) → i ≤ 0 → newest i keys links i x ≡ last_place keys 0 x
unfolding newest last_place
no_place keys links x zero h = refl
no_place keys links x (suc i) h = absurd (omega arith)

pub none_in : (keys links heads : List ℕ) → 0 < length heads → length links ≡ length keys → heads ≡ replicate (length heads) 0 → Table keys links heads 0
none_in keys links heads s e z = record {
  some = s;
  upto = omega arith;
  even = e;
  down = record { low = λ j h. absurd (omega (arith, h)) };
  top = λ h. zero-at h;
  holds = λ x. no_place keys links x (get_or heads (x % length heads) 0) (zero-at (x % length heads));
}
  where
    in-zeros : (n h : ℕ) → get_or (replicate n 0) h 0 ≤ 0
    in-zeros zero h = omega arith
    in-zeros (suc n) zero = omega arith
    in-zeros (suc n) (suc h) = in-zeros n h

    zero-at : (h : ℕ) → get_or heads h 0 ≤ 0
    zero-at h = rw z (in-zeros (length heads) h)

pub bucket-below : (x b c r : ℕ) → 0 < b → c ≡ b → r ≡ x % c → r < b
bucket-below x b c r h e f = rw (f, e) (mod-lt x h)

pub bucket-is : (x b c r : ℕ) → c ≡ b → r ≡ x % c → r ≡ x % b
bucket-is x b c r e f = rw (f, e)

-- keys beside zeros
pub none-at : (keys : List ℕ) (c b : ℕ) → length keys ≡ c → 0 < b → Table keys (replicate c 0) (replicate b 0) 0
none-at keys c b e h = none_in keys (replicate c 0) (replicate b 0) (rw length-replicate h) (length-replicate c 0 ∙ sym e) (ap (λ (n : ℕ). replicate n 0) (sym (length-replicate b 0)))

pub none-zeros : (c b : ℕ) → 0 < b → Table (replicate c 0) (replicate c 0) (replicate b 0) 0
none-zeros c b h = none-at (replicate c 0) c b (length-replicate c 0) h
