-- Joined lists: their lengths and where each starts, and the numbers from one on.
use mathlib.Core.Path.{◌≡◌, refl, ap, sym, ◌∙◌}
use mathlib.Core.List.{List, [], ◌∷◌, ◌++◌, map, append_assoc, map-append, map-id}
use Prim.Native.Nat.{ℕ, zero, suc, ◌+◌, ◌≤◌, ◌<◌}
use native.Mathlib.Numerals.{add-one}
use native.Mathlib.Omega.{arith}
use native.Mathlib.Nat.{not-suc-le-zero, le_of_suc-le-suc, zero-add, add-zero, suc-add}
use lib.ListN.{length, get_or, take, length-append, length-map}
use lib.Seq.{take-append_seam, drop-append-add}
use Rattle.lists.specs.Lists.{flat, joined, starts, part, up_from, sum, Each}

-- ── the lists of the elements, joined ────────────────────────────────────────────────────────

module _ {A B : Type 0} where
  pub flat_append : (f : A → List B) (s t : List A) → flat f (s ++ t) ≡ flat f s ++ flat f t
  flat_append f [] t = refl
  flat_append f (x ∷ xs) t = rw (flat_append f xs t) (sym (append_assoc (f x) (flat f xs) (flat f t)))

  pub flat-ext : (f g : A → List B) (xs : List A) → Each (λ x. f x ≡ g x) xs → flat f xs ≡ flat g xs
  flat-ext f g [] h = refl
  flat-ext f g (x ∷ xs) h = rw (h.0, flat-ext f g xs h.1)

  pub flat_map : {C : Type 0} (f : B → List C) (h : A → B) (xs : List A) → flat f (map h xs) ≡ flat (λ x. f (h x)) xs
  flat_map f h [] = refl
  flat_map f h (x ∷ xs) = rw (flat_map f h xs)

  pub map-ext : (f g : A → B) (xs : List A) → Each (λ x. f x ≡ g x) xs → map f xs ≡ map g xs
  map-ext f g [] h = refl
  map-ext f g (x ∷ xs) h = rw (h.0, map-ext f g xs h.1)

  pub map-flat : {C : Type 0} (g : B → C) (f : A → List B) (xs : List A) → map g (flat f xs) ≡ flat (λ x. map g (f x)) xs
  map-flat g f [] = refl
  map-flat g f (x ∷ xs) = rw (map-append g (f x) (flat f xs), map-flat g f xs)

  pub length-flat : (f : A → List B) (xs : List A) → length (flat f xs) ≡ sum (λ x. length (f x)) xs
  unfolding sum
  length-flat f [] = refl
  length-flat f (x ∷ xs) = rw (length-append (f x) (flat f xs), length-flat f xs)

  pub joined-map : (f : A → List B) (xs : List A) → joined (map f xs) ≡ flat f xs
  unfolding joined
  joined-map f [] = refl
  joined-map f (x ∷ xs) = rw (joined-map f xs)

-- ── lists joined ─────────────────────────────────────────────────────────────────────────────

module _ {A : Type 0} where
  pub joined-append : (ks ls : List (List A)) → joined (ks ++ ls) ≡ joined ks ++ joined ls
  unfolding joined
  joined-append [] ls = refl
  joined-append (k ∷ ks) ls = rw (joined-append ks ls) (sym (append_assoc k (joined ks) (joined ls)))

  pub length-joined : (ls : List (List A)) → length (joined ls) ≡ sum length ls
  unfolding joined sum
  length-joined [] = refl
  length-joined (l ∷ ls) = rw (length-append l (joined ls), length-joined ls)

  -- one of the lists is no longer than all together
  pub joined-few : (ls : List (List A)) (i : ℕ) → length (get_or ls i []) ≤ length (joined ls)
  unfolding joined
  joined-few [] i = omega arith
  joined-few (l ∷ ls) zero = omega (arith, length-append l (joined ls))
  joined-few (l ∷ ls) (suc i) = omega (arith, length-append l (joined ls), joined-few ls i)

  pub sum-append : (f : A → ℕ) (s t : List A) → sum f (s ++ t) ≡ sum f s + sum f t
  unfolding sum
  sum-append f [] t = omega arith
  sum-append f (x ∷ xs) t = omega (arith, sum-append f xs t)

  pub length-starts : (a : ℕ) (ls : List (List A)) → length (starts a ls) ≡ suc (length ls)
  unfolding starts
  length-starts a [] = refl
  length-starts a (l ∷ ls) = rw (length-starts (a + length l) ls)

  -- a list starts where those before it end
  pub get_or-starts : (a : ℕ) (ls : List (List A)) (i d : ℕ) → i ≤ length ls → get_or (starts a ls) i d ≡ a + sum length (take i ls)
  unfolding starts sum
  get_or-starts a [] zero d h = omega arith
  get_or-starts a [] (suc i) d h = absurd (not-suc-le-zero h)
  get_or-starts a (l ∷ ls) zero d h = omega arith
  get_or-starts a (l ∷ ls) (suc i) d h = omega (arith, get_or-starts (a + length l) ls i d (le_of_suc-le-suc h))

  -- what stands there is the list
  pub part-joined : (ls : List (List A)) (i : ℕ) → part (sum length (take i ls)) (length (get_or ls i [])) (joined ls) ≡ get_or ls i []
  unfolding part joined sum
  part-joined [] i = refl
  part-joined (l ∷ ls) zero = take-append_seam l (joined ls)
  part-joined (l ∷ ls) (suc i) = rw (drop-append-add l (joined ls) (sum length (take i ls))) (part-joined ls i)

-- ── numbers from one on ──────────────────────────────────────────────────────────────────────

pub length-up_from : (i n : ℕ) → length (up_from i n) ≡ n
unfolding up_from
length-up_from i zero = refl
length-up_from i (suc n) = rw (length-up_from (suc i) n)

pub up_from-append : (i n m : ℕ) → up_from i (n + m) ≡ up_from i n ++ up_from (i + n) m
unfolding up_from
up_from-append i zero m = rw (zero-add m, add-zero i)
up_from-append i (suc n) m =
    rw (suc-add n m) (ap (λ xs. i ∷ xs) (up_from-append (suc i) n m ∙ ap (λ j. up_from (suc i) n ++ up_from j m) (omega arith)))

pub up_from-snoc : (i n : ℕ) → up_from i (suc n) ≡ up_from i n ++ ((i + n) ∷ [])
unfolding up_from
up_from-snoc i n = ap (up_from i) (sym (add-one n)) ∙ up_from-append i n 1

module _ {B : Type 0} (f : ℕ → B) where
  pub length-map-up_from : (i n : ℕ) → length (map f (up_from i n)) ≡ n
  length-map-up_from i n = length-map (up_from i n) f ∙ length-up_from i n

  pub get_or-map-up_from : (i n j : ℕ) (d : B) → j < n → get_or (map f (up_from i n)) j d ≡ f (i + j)
  unfolding up_from
  get_or-map-up_from i zero j d h = absurd (not-suc-le-zero h)
  get_or-map-up_from i (suc n) zero d h = ap f (omega arith)
  get_or-map-up_from i (suc n) (suc j) d h = get_or-map-up_from (suc i) n j d (le_of_suc-le-suc h) ∙ ap f (omega arith)

  pub map-up_from-snoc : (i n : ℕ) → map f (up_from i (suc n)) ≡ map f (up_from i n) ++ (f (i + n) ∷ [])
  map-up_from-snoc i n = rw (up_from-snoc i n) (map-append f (up_from i n) ((i + n) ∷ []))

pub get_or-up_from : (i n j d : ℕ) → j < n → get_or (up_from i n) j d ≡ i + j
get_or-up_from i n j d h = ap (λ xs. get_or xs j d) (sym (map-id (up_from i n))) ∙ get_or-map-up_from (λ x. x) i n j d h
