-- Parts of lists: lists of one width joined, whose parts at the multiples of the width are the lists themselves, and a list out of such parts.
use mathlib.Core.Path.{◌≡◌, refl, ap, sym, ◌∙◌}
use mathlib.Core.Bool.{Bool}
use mathlib.Core.Logic.{inl, inr}
use mathlib.Core.List.{List, [], ◌∷◌, ◌++◌, map}
use Prim.Native.Nat.{ℕ, zero, suc, ◌+◌, ◌-◌, ◌*◌, ◌≤◌, ◌<◌}
use native.Mathlib.Omega.{arith}
use native.Mathlib.Nat.{not-suc-le-zero, le_of_suc-le-suc, mul-zero, mul-suc, zero-add}
use lib.ListN.{length, get_or, take, drop, length-append, length-drop}
use lib.Seq.{length-take-le, take_all, take_at, take-add, drop_at, drop-drop, drop-cons, drop-append-add}
use Rattle.lists.specs.Lists.{flat, filter, part, up_from, Each}
use Rattle.lists.proofs.Tests.{tested}
use Rattle.lists.proofs.Flat.{length-up_from, up_from-append}

pub length_part : {A : Type 0} (i n : ℕ) (l : List A) → i + n ≤ length l → length (part i n l) ≡ n
unfolding part
length_part i n l h = length-take-le n (drop i l) (omega (arith, length-drop i l))

-- lists of one width, joined
pub length-wide : {A B : Type 0} (f : A → List B) (w : ℕ) (xs : List A) → Each (λ x. length (f x) ≡ w) xs → length (flat f xs) ≡ w * length xs
length-wide f w [] e = sym (mul-zero w)
length-wide f w (x ∷ xs) e = omega (arith, length-append (f x) (flat f xs), e.0, length-wide f w xs e.1, mul-suc w (length xs))

-- each stands at its place
pub block_at : {A B : Type 0} (f : A → List B) (w : ℕ) (xs : List A) (i : ℕ) (d : A) → Each (λ x. length (f x) ≡ w) xs → i < length xs
    → part (w * i) w (flat f xs) ≡ f (get_or xs i d)
unfolding part
block_at f w [] i d e h = absurd (not-suc-le-zero h)
block_at f w (x ∷ xs) zero d e h = rw (mul-zero w) (take_at (f x) (flat f xs) w e.0)
block_at f w (x ∷ xs) (suc i) d e h =
    let q : w * suc i ≡ length (f x) + w * i = omega (arith, mul-suc w i, e.0) in
    rw (q, drop-append-add (f x) (flat f xs) (w * i)) (block_at f w xs i d e.1 (le_of_suc-le-suc h))

-- parts of one width, one after the other
pub parts_from : {A : Type 0} (w : ℕ) (l : List A) (i n : ℕ) → flat (λ j. part (w * j) w l) (up_from i n) ≡ part (w * i) (w * n) l
unfolding part up_from
parts_from w l i zero = rw (mul-zero w)
parts_from w l i (suc n) =
    let e : w * suc n ≡ w + w * n = omega (arith, mul-suc w n) in
    let d : w * suc i ≡ w * i + w = omega (arith, mul-suc w i) in
    rw (e, take-add w (w * n) (drop (w * i) l), drop-drop w (w * i) l, ← d) (ap (λ xs. take w (drop (w * i) l) ++ xs) (parts_from w l (suc i) n))

pub parts_all : {A : Type 0} (w n : ℕ) (l : List A) → length l ≡ w * n → flat (λ j. part (w * j) w l) (up_from 0 n) ≡ l
unfolding part
parts_all w n l e = parts_from w l 0 n ∙ ap (λ i. take (w * n) (drop i l)) (mul-zero w) ∙ take_all (w * n) l (omega arith)

-- ── numbers and places ───────────────────────────────────────────────────────────────────────

pub take-up_from : (i n m : ℕ) → n ≤ m → take n (up_from i m) ≡ up_from i n
take-up_from i n m l =
    let e : m ≡ n + (m - n) = omega arith in
    rw (e, up_from-append i n (m - n)) (take_at (up_from i n) (up_from (i + n) (m - n)) n (length-up_from i n))

pub drop-up_from : (i n m : ℕ) → n ≤ m → drop n (up_from i m) ≡ up_from (i + n) (m - n)
drop-up_from i n m l =
    ap (λ k. drop n (up_from i k)) {x = m} {y = n + (m - n)} (omega arith) ∙ ap (drop n) (up_from-append i n (m - n))
    ∙ drop_at (up_from i n) (up_from (i + n) (m - n)) n (length-up_from i n)

pub part-up_from : (a n m : ℕ) → a + n ≤ m → part a n (up_from 0 m) ≡ up_from a n
unfolding part
part-up_from a n m l = rw (drop-up_from 0 a m (omega arith), zero-add a) (take-up_from a n (m - a) (omega arith))

-- the elements at some places that follow one another
pub map-part : {A : Type 0} (xs : List A) (d : A) (a n : ℕ) → a + n ≤ length xs → map (λ i. get_or xs i d) (up_from a n) ≡ part a n xs
unfolding part up_from
map-part xs d a zero l = refl
map-part xs d a (suc n) l = rw (drop-cons xs a d (omega arith)) (ap (λ ys. get_or xs a d ∷ ys) (map-part xs d (suc a) n (omega arith)))

-- ── made lists ───────────────────────────────────────────────────────────────────────────────

pub filter_map : {A B : Type 0} (p : B → Bool) (g : A → B) (xs : List A) → filter p (map g xs) ≡ map g (filter (λ x. p (g x)) xs)
unfolding filter
filter_map p g [] = refl
filter_map p g (x ∷ xs) = elim (tested (p (g x))) [ inl e ↦ rw (e, filter_map p g xs) | inr e ↦ rw e (filter_map p g xs) ]
