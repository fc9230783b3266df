-- Numbers in buckets: keys in the order of arrival, each linked to the last key before it of the same bucket. Places are counted from 1,
-- and 0 is none.
use Rattle.std.specs.Prelude.{◌≡◌, ℕ, zero, suc, ◌%◌, ◌<◌, ◌≤◌, cond, ◌||◌, List, [], ◌∷◌, ◌++◌, length, take, ◌==◌, nat_le, slice_index}
use Rattle.lists.specs.Lists.{mem}

-- the last place of x among the first n keys
unfoldable pub last_place : List ℕ → ℕ → ℕ → ℕ
last_place keys zero x = 0
last_place keys (suc i) x = cond (slice_index keys i == x) (suc i) (last_place keys i x)

-- the first place of x from place i on, along the links; at most f places are looked at
unfoldable pub newest : ℕ → List ℕ → List ℕ → ℕ → ℕ → ℕ
newest zero keys links i x = 0
newest (suc f) keys links zero x = 0
newest (suc f) keys links (suc j) x = cond (slice_index keys j == x) (suc j) (newest f keys links (slice_index links j) x)

-- the links of the first n keys lead down
pub record Down (links : List ℕ) (n : ℕ) : Type 0 where
  pub low : (j : ℕ) → j < n → slice_index links j ≤ j

-- the buckets hold the first n keys
pub record Table (keys links heads : List ℕ) (n : ℕ) : Type 0 where
  pub some : 0 < length heads
  pub upto : n ≤ length keys
  pub even : length links ≡ length keys
  pub down : Down links n
  pub top : (h : ℕ) → slice_index heads h ≤ n
  pub holds : (x : ℕ) → newest (slice_index heads (x % length heads)) keys links (slice_index heads (x % length heads)) x ≡ last_place keys n x

-- x put at the end, unless it is there or c are there already
unfoldable pub add_cap : ℕ → List ℕ → ℕ → List ℕ
add_cap c ys x = cond (mem x ys || nat_le c (length ys)) ys (ys ++ (x ∷ []))

-- the same for each of a list, one after the other
unfoldable pub adds_cap : ℕ → List ℕ → List ℕ → List ℕ
adds_cap c ys [] = ys
adds_cap c ys (x ∷ xs) = adds_cap c (add_cap c ys x) xs

-- the keys before and after each of ps was put in: n of them, then r
pub record Keys (was is : List ℕ) (n r : ℕ) (ps : List ℕ) : Type 0 where
  pub size : length is ≡ length was
  pub more : n ≤ r
  pub upto : r ≤ length is
  pub are : take r is ≡ adds_cap (length was) (take n was) ps
