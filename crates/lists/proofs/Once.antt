-- Each element once: what is in a list that elements were added to, when a list has each element once, and that renaming keeps it.
use mathlib.Core.Path.{◌≡◌, refl, ap, sym, ◌∙◌, subst}
use mathlib.Core.Bool.{Bool, true, false, cond, ◌||◌, not, false≢true, or_assoc, or-false, or-true, and-eq-true_iff}
use mathlib.Core.List.{List, [], ◌∷◌, ◌++◌, map, foldl, append-nil, append_assoc, foldl-append, map-append}
use Prim.Native.Nat.{ℕ, ◌≤◌}
use native.Mathlib.Nat.{le_trans}
use native.Mathlib.Omega.{arith}
use lib.Dec.{eqb}
use lib.ListN.{length, length-append}
use borrow.Author.Tests.{eqb-true, eqb-false, eq-eqb, ne_eqb, not-true}
use Rattle.lists.specs.Lists.{mem, add, once, distinct, Each}
use Rattle.lists.proofs.Each.{each_append}

-- ── tests ────────────────────────────────────────────────────────────────────────────────────

-- a test that agrees with another both ways is the other
pub eqb-iff : (a b c d : ℕ) → (a ≡ b → c ≡ d) → (c ≡ d → a ≡ b) → eqb a b ≡ eqb c d
eqb-iff a b c d f g = go (eqb c d) refl
  where
    go : (t : Bool) → eqb c d ≡ t → eqb a b ≡ eqb c d
    go true e = eq-eqb a b (g (eqb-true c d e)) ∙ sym e
    go false e = ne_eqb a b (λ p. eqb-false c d e (f p)) ∙ sym e

pub eqb-sym : (a b : ℕ) → eqb a b ≡ eqb b a
eqb-sym a b = eqb-iff a b b a sym sym

pub or-is-false : (a b : Bool) → (a || b) ≡ false → (a ≡ false) × (b ≡ false)
or-is-false true b h = absurd (false≢true (sym h))
or-is-false false b h = (refl, h)

-- ── what is in a list ────────────────────────────────────────────────────────────────────────

pub mem-append : (x : ℕ) (s t : List ℕ) → mem x (s ++ t) ≡ (mem x s || mem x t)
unfolding mem
mem-append x [] t = refl
mem-append x (y ∷ ys) t = rw (mem-append x ys t) (sym (or_assoc (eqb x y) (mem x ys) (mem x t)))

pub mem-first : (x : ℕ) (s : List ℕ) → mem x (x ∷ s) ≡ true
unfolding mem
mem-first x s = rw (eq-eqb x x refl)

pub mem-later : (x y : ℕ) (s : List ℕ) → mem x s ≡ true → mem x (y ∷ s) ≡ true
unfolding mem
mem-later x y s e = rw e (or-true (eqb x y))

pub mem-last : (x k : ℕ) (s : List ℕ) → mem x (s ++ (k ∷ [])) ≡ (mem x s || eqb x k)
unfolding mem
mem-last x k s = rw (mem-append x s (k ∷ []), or-false (eqb x k))

pub mem-snoc : (x : ℕ) (s : List ℕ) → mem x (s ++ (x ∷ [])) ≡ true
unfolding mem
mem-snoc x s = rw (mem-append x s (x ∷ []), eq-eqb x x refl) (or-true (mem x s))

pub add-there : (s : List ℕ) (x : ℕ) → mem x s ≡ true → add s x ≡ s
unfolding add
add-there s x h = rw h

pub add-new : (s : List ℕ) (x : ℕ) → mem x s ≡ false → add s x ≡ s ++ (x ∷ [])
unfolding add
add-new s x h = rw h

-- what is there stays there
pub mem-add : (s : List ℕ) (x y : ℕ) → mem x s ≡ true → mem x (add s y) ≡ true
unfolding add
mem-add s x y h = go (mem y s)
  where
    go : (b : Bool) → mem x (cond b s (s ++ (y ∷ []))) ≡ true
    go true = h
    go false = rw (mem-append, h)

pub mem-added : (s : List ℕ) (x : ℕ) → mem x (add s x) ≡ true
mem-added s x = go (mem x s) refl
  where
    go : (b : Bool) → mem x s ≡ b → mem x (add s x) ≡ true
    go true e = rw (add-there s x e, e)
    go false e = rw (add-new s x e) (mem-snoc x s)

pub mem-stays : (s xs : List ℕ) (x : ℕ) → mem x s ≡ true → mem x (foldl add s xs) ≡ true
mem-stays s [] x h = h
mem-stays s (y ∷ ys) x h = mem-stays (add s y) ys x (mem-add s x y h)

-- what was added is there
pub mem-folded : (s xs : List ℕ) (x : ℕ) → mem x xs ≡ true → mem x (foldl add s xs) ≡ true
unfolding mem
mem-folded s [] x h = absurd (false≢true h)
mem-folded s (y ∷ ys) x h = go (eqb x y) refl h (λ h. mem-folded (add s y) ys x h)
  where
    go : (b : Bool) → eqb x y ≡ b → (b || mem x ys) ≡ true → (mem x ys ≡ true → mem x (foldl add (add s y) ys) ≡ true)
        → mem x (foldl add (add s y) ys) ≡ true
    go true e h ih = mem-stays (add s y) ys x (rw (eqb-true x y e) (mem-added s y))
    go false e h ih = ih h

-- adding leaves no list shorter
pub add-grows : (s : List ℕ) (x : ℕ) → length s ≤ length (add s x)
unfolding add
add-grows s x = go (mem x s)
  where
    go : (b : Bool) → length s ≤ length (cond b s (s ++ (x ∷ [])))
    go true = omega arith
    go false = omega (arith, length-append s (x ∷ []))

pub fold-grows : (s xs : List ℕ) → length s ≤ length (foldl add s xs)
fold-grows s [] = omega arith
fold-grows s (x ∷ xs) = le_trans (add-grows s x) (fold-grows (add s x) xs)

-- what each element has, a member has
pub each-has : (P : ℕ → Type 0) (x : ℕ) (xs : List ℕ) → Each P xs → mem x xs ≡ true → P x
unfolding mem
each-has P x [] h m = absurd (false≢true m)
each-has P x (y ∷ ys) h m = go (eqb x y) refl m (λ m. each-has P x ys h.1 m)
  where
    go : (b : Bool) → eqb x y ≡ b → (b || mem x ys) ≡ true → (mem x ys ≡ true → P x) → P x
    go true e m ih = subst P (sym (eqb-true x y e)) h.0
    go false e m ih = ih m

-- ── adding what was added elsewhere first ────────────────────────────────────────────────────

fold-add : (s b : List ℕ) (x : ℕ) → foldl add s (add b x) ≡ add (foldl add s b) x
fold-add s b x = go (mem x b) refl
  where
    go : (c : Bool) → mem x b ≡ c → foldl add s (add b x) ≡ add (foldl add s b) x
    go true e = rw (add-there b x e, add-there (foldl add s b) x (mem-folded s b x e))
    go false e = rw (add-new b x e) (foldl-append add s b (x ∷ []))

pub fold-fold : (s b xs : List ℕ) → foldl add s (foldl add b xs) ≡ foldl add (foldl add s b) xs
fold-fold s b [] = refl
fold-fold s b (x ∷ xs) = rw (fold-fold s (add b x) xs, fold-add s b x)

pub fold-once : (s xs : List ℕ) → foldl add s (once xs) ≡ foldl add s xs
unfolding once
fold-once s xs = fold-fold s [] xs

-- ── distinct lists ───────────────────────────────────────────────────────────────────────────

distinct-parts : (x : ℕ) (xs : List ℕ) → distinct (x ∷ xs) ≡ true → (mem x xs ≡ false) × (distinct xs ≡ true)
unfolding distinct
distinct-parts x xs h =
    let p : (not (mem x xs) ≡ true) × (distinct xs ≡ true) = (and-eq-true_iff (not (mem x xs)) (distinct xs)).0 h in
    (not-true (mem x xs) p.0, p.1)

distinct_cons : (x : ℕ) (xs : List ℕ) → mem x xs ≡ false → distinct xs ≡ true → distinct (x ∷ xs) ≡ true
unfolding distinct
distinct_cons x xs h d = rw (h, d)

distinct_snoc : (s : List ℕ) (x : ℕ) → distinct s ≡ true → mem x s ≡ false → distinct (s ++ (x ∷ [])) ≡ true
unfolding mem distinct
distinct_snoc [] x d h = refl
distinct_snoc (y ∷ ys) x d h =
    let p : (mem y ys ≡ false) × (distinct ys ≡ true) = distinct-parts y ys d in
    let q : (eqb x y ≡ false) × (mem x ys ≡ false) = or-is-false (eqb x y) (mem x ys) h in
    distinct_cons y (ys ++ (x ∷ [])) (rw (mem-append y ys (x ∷ []), p.0, eqb-sym y x, q.0)) (distinct_snoc ys x p.1 q.1)

distinct-add : (s : List ℕ) (x : ℕ) → distinct s ≡ true → distinct (add s x) ≡ true
distinct-add s x d = go (mem x s) refl
  where
    go : (b : Bool) → mem x s ≡ b → distinct (add s x) ≡ true
    go true e = rw (add-there s x e) d
    go false e = rw (add-new s x e) (distinct_snoc s x d e)

distinct-fold : (s xs : List ℕ) → distinct s ≡ true → distinct (foldl add s xs) ≡ true
distinct-fold s [] d = d
distinct-fold s (x ∷ xs) d = distinct-fold (add s x) xs (distinct-add s x d)

pub distinct-once : (xs : List ℕ) → distinct (once xs) ≡ true
unfolding once distinct
distinct-once xs = distinct-fold [] xs refl

distinct-seam : (s : List ℕ) (x : ℕ) (xs : List ℕ) → distinct (s ++ (x ∷ xs)) ≡ true → mem x s ≡ false
unfolding mem
distinct-seam [] x xs d = refl
distinct-seam (y ∷ ys) x xs d =
    let p : (mem y (ys ++ (x ∷ xs)) ≡ false) × (distinct (ys ++ (x ∷ xs)) ≡ true) = distinct-parts y (ys ++ (x ∷ xs)) d in
    let q : (mem y ys ≡ false) × ((eqb y x || mem y xs) ≡ false) = or-is-false (mem y ys) (mem y (x ∷ xs)) (sym (mem-append y ys (x ∷ xs)) ∙ p.0) in
    rw (eqb-sym x y, (or-is-false (eqb y x) (mem y xs) q.1).0) (distinct-seam ys x xs p.1)

fold-distinct : (s xs : List ℕ) → distinct (s ++ xs) ≡ true → foldl add s xs ≡ s ++ xs
fold-distinct s [] d = sym (append-nil s)
fold-distinct s (x ∷ xs) d =
    rw (add-new s x (distinct-seam s x xs d))
    (fold-distinct (s ++ (x ∷ [])) xs (rw append_assoc d) ∙ append_assoc s (x ∷ []) xs)

pub once-distinct : (xs : List ℕ) → distinct xs ≡ true → once xs ≡ xs
unfolding once
once-distinct xs d = fold-distinct [] xs d

-- ── properties, and renaming ─────────────────────────────────────────────────────────────────

module _ (P : ℕ → Type 0) where
  pub each-add : (s : List ℕ) (x : ℕ) → Each P s → P x → Each P (add s x)
  unfolding add
  each-add s x h p = go (mem x s)
    where
      go : (b : Bool) → Each P (cond b s (s ++ (x ∷ [])))
      go true = h
      go false = each_append P s (x ∷ []) h (p, tt)

  pub each-fold : (s xs : List ℕ) → Each P s → Each P xs → Each P (foldl add s xs)
  each-fold s [] h g = h
  each-fold s (x ∷ xs) h g = each-fold (add s x) xs (each-add s x h g.0) g.1

  pub each-once : (xs : List ℕ) → Each P xs → Each P (once xs)
  unfolding once
  each-once xs g = each-fold [] xs tt g

-- different numbers with a property get different names
abbrev pub InjOn : (ℕ → Type 0) → (ℕ → ℕ) → Type 0
InjOn P f = (x y : ℕ) → P x → P y → f x ≡ f y → x ≡ y

module _ (P : ℕ → Type 0) (f : ℕ → ℕ) (inj : InjOn P f) where
  mem-map : (x : ℕ) (s : List ℕ) → P x → Each P s → mem (f x) (map f s) ≡ mem x s
  unfolding mem
  mem-map x [] p h = refl
  mem-map x (y ∷ ys) p h = rw (eqb-iff (f x) (f y) x y (inj x y p h.0) (ap f), mem-map x ys p h.1)

  add-map : (x : ℕ) (s : List ℕ) → P x → Each P s → add (map f s) (f x) ≡ map f (add s x)
  unfolding add
  add-map x s p h = rw (mem-map x s p h) (go (mem x s))
    where
      go : (b : Bool) → cond b (map f s) (map f s ++ (f x ∷ [])) ≡ map f (cond b s (s ++ (x ∷ [])))
      go true = refl
      go false = sym (map-append f s (x ∷ []))

  fold-map : (s xs : List ℕ) → Each P s → Each P xs → foldl add (map f s) (map f xs) ≡ map f (foldl add s xs)
  fold-map s [] h g = refl
  fold-map s (x ∷ xs) h g =
      ap (λ t. foldl add t (map f xs)) (add-map x s g.0 h) ∙ fold-map (add s x) xs (each-add P s x h g.0) g.1

  pub once-map : (xs : List ℕ) → Each P xs → once (map f xs) ≡ map f (once xs)
  unfolding once
  once-map xs g = fold-map [] xs tt g
