-- Rows under their numbers: the numbers rise by one, and what holds of the rows holds of them numbered.
use mathlib.Core.Path.{◌≡◌, refl, ap}
use mathlib.Core.List.{List, [], ◌∷◌, ◌++◌, map}
use Prim.Native.Nat.{ℕ, suc, ◌+◌, ◌≤◌, ◌<◌}
use native.Mathlib.Omega.{arith}
use native.Mathlib.Nat.{not-suc-le-zero, add-zero}
use lib.ListN.{length}
use Rattle.columns.specs.Limits.{Served}
use Rattle.lists.specs.Lists.{sum, Each}
use Rattle.lists.proofs.Each.{each-imp}
use Rattle.cleaning.specs.Summary.{Kept}
use Rattle.cleaning.specs.Writing.{Numbered, numbered_from, first_number}
use Rattle.cleaning.proofs.Good.{GoodLists, RowsFrom}

-- numbers rise by one, from n on
abbrev pub Counted : ℕ → List Numbered → Type 0
Counted n [] = Unit {0}
Counted n (r ∷ rs) = (r.number ≡ n) × Counted (suc n) rs

pub numbered-counted : (n : ℕ) (rs : List Kept) → Counted n (numbered_from n rs)
unfolding numbered_from
numbered-counted n [] = tt
numbered-counted n (r ∷ rs) = (refl, numbered-counted (suc n) rs)

pub map-numbered : {B : Type 0} (f : Kept → B) (n : ℕ) (rs : List Kept) → map (λ r. f r.row) (numbered_from n rs) ≡ map f rs
unfolding numbered_from
map-numbered f n [] = refl
map-numbered f n (r ∷ rs) = ap (λ xs. f r ∷ xs) (map-numbered f (suc n) rs)

pub sum-numbered : (f : Kept → ℕ) (n : ℕ) (rs : List Kept) → sum (λ r. f r.row) (numbered_from n rs) ≡ sum f rs
unfolding numbered_from sum
sum-numbered f n [] = refl
sum-numbered f n (r ∷ rs) = ap (λ m. f r + m) (sum-numbered f (suc n) rs)

pub length-numbered : (n : ℕ) (rs : List Kept) → length (numbered_from n rs) ≡ length rs
unfolding numbered_from
length-numbered n [] = refl
length-numbered n (r ∷ rs) = rw (length-numbered (suc n) rs)

pub each-numbered : (P : Kept → Type 0) (n : ℕ) (rs : List Kept) → Each P rs → Each (λ r. P r.row) (numbered_from n rs)
unfolding numbered_from
each-numbered P n [] h = tt
each-numbered P n (r ∷ rs) h = (h.0, each-numbered P (suc n) rs h.1)

pub lists-numbered : (K : ℕ) (served : Served K) (n : ℕ) (rs : List Kept) → RowsFrom K n rs → Each (λ r. GoodLists K r.number r.row.parents) (numbered_from n rs)
unfolding numbered_from
lists-numbered K served n [] h = tt
lists-numbered K served n (r ∷ rs) h = (h.0, lists-numbered K served (suc n) rs h.1)

pub counted-append : (n : ℕ) (s t : List Numbered) → Counted n (s ++ t) → Counted n s × Counted (n + length s) t
counted-append n [] t h = rw (add-zero n) (tt, h)
counted-append n (r ∷ s) t h =
    let q = counted-append (suc n) s t h.1 in
    let e : suc n + length s ≡ n + suc (length s) = omega arith in
    ((h.0, q.0), rw e at q.1)

pub counted-within : (n : ℕ) (rs : List Numbered) → Counted n rs → Each (λ r. (n ≤ r.number) × (r.number < n + length rs)) rs
counted-within n [] h = tt
counted-within n (r ∷ rs) h = (
  (omega (arith, h.0), omega (arith, h.0)),
  each-imp (λ s. (suc n ≤ s.number) × (s.number < suc n + length rs)) (λ s. (n ≤ s.number) × (s.number < n + suc (length rs))) rs
      (λ s w. (omega arith, omega arith)) (counted-within (suc n) rs h.1),
)

pub first_counted : (n : ℕ) (rs : List Numbered) → 0 < length rs → Counted n rs → first_number rs ≡ n
first_counted n [] l h = absurd (not-suc-le-zero l)
first_counted n (r ∷ rs) l h = h.0
