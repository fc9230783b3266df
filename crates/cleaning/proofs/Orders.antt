-- Columns in order, one after the other.
use mathlib.Core.Path.{◌≡◌, refl}
use mathlib.Core.Bool.{true}
use mathlib.Core.List.{List, [], ◌∷◌, ◌++◌, map}
use Prim.Native.Nat.{ℕ, ◌+◌, ◌≤◌, ◌<◌}
use native.Mathlib.Omega.{arith}
use lib.Dec.{leb, ltb}
use borrow.Author.Tests.{ltb-true, lt-ltb, leb-true, le-leb}
use Rattle.lists.specs.Lists.{Each}
use Rattle.lists.specs.Order.{rises_above, rising, level_above, not_falling}
use Rattle.lists.proofs.Tests.{both}

-- ── rising or level ──────────────────────────────────────────────────────────────────────────

pub level-append : (low m : ℕ) (xs ys : List ℕ) → level_above low xs ≡ true → low ≤ m → Each (λ x. x ≤ m) xs → level_above m ys ≡ true
    → level_above low (xs ++ ys) ≡ true
unfolding level_above
level-append low m [] [] h l b k = refl
level-append low m [] (y ∷ ys) h l b k =
    let q = both (leb m y) (level_above y ys) k in
    rw (le-leb low y (omega (arith, leb-true m y q.0))) q.1
level-append low m (x ∷ xs) ys h l b k = let q = both (leb low x) (level_above x xs) h in rw q.0 (level-append x m xs ys q.1 b.0 b.1 k)

-- a column whose numbers are all at or past m
pub level-raise : (m : ℕ) (xs : List ℕ) → not_falling xs ≡ true → Each (λ x. m ≤ x) xs → level_above m xs ≡ true
unfolding level_above not_falling
level-raise m [] h b = refl
level-raise m (x ∷ xs) h b = rw (le-leb m x b.0) (both (leb 0 x) (level_above x xs) h).1

-- one number again and again
pub level-same : {A : Type 0} (m : ℕ) (xs : List A) → level_above m (map (λ x. m) xs) ≡ true
unfolding level_above
level-same m [] = refl
level-same m (x ∷ xs) = rw (le-leb m m (omega arith)) (level-same m xs)

-- ── rising ───────────────────────────────────────────────────────────────────────────────────

rises-on : (low m : ℕ) (xs ys : List ℕ) → rises_above low xs ≡ true → low < m → Each (λ x. x < m) xs → rising ys ≡ true → Each (λ y. m ≤ y) ys
    → rises_above low (xs ++ ys) ≡ true
unfolding rises_above rising
rises-on low m [] [] h l b k c = refl
rises-on low m [] (y ∷ ys) h l b k c = rw (lt-ltb low y (omega (arith, c.0))) k
rises-on low m (x ∷ xs) ys h l b k c = let q = both (ltb low x) (rises_above x xs) h in rw q.0 (rises-on x m xs ys q.1 b.0 b.1 k c)

pub rising-append : (m : ℕ) (xs ys : List ℕ) → rising xs ≡ true → Each (λ x. x < m) xs → rising ys ≡ true → Each (λ y. m ≤ y) ys → rising (xs ++ ys) ≡ true
unfolding rising
rising-append m [] ys h b k c = k
rising-append m (x ∷ xs) ys h b k c = rises-on x m xs ys h b.0 b.1 k c

rises-shift : (n low : ℕ) (xs : List ℕ) → rises_above low xs ≡ true → rises_above (n + low) (map (λ x. n + x) xs) ≡ true
unfolding rises_above
rises-shift n low [] h = refl
rises-shift n low (x ∷ xs) h =
    let q = both (ltb low x) (rises_above x xs) h in
    rw (lt-ltb (n + low) (n + x) (omega (arith, ltb-true low x q.0))) (rises-shift n x xs q.1)

pub rising-shift : (n : ℕ) (xs : List ℕ) → rising xs ≡ true → rising (map (λ x. n + x) xs) ≡ true
unfolding rising
rising-shift n [] h = refl
rising-shift n (x ∷ xs) h = rises-shift n x xs h
