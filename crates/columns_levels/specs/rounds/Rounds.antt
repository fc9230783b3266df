-- A whole walk in work slices: the start, then level after level behind it, and the places where levels end.
use Rattle.std.specs.Prelude.{◌≡◌, List, [], ◌∷◌, ◌++◌, ℕ, ◌+◌, ◌-◌, ◌≤◌, length, take, drop}
use Rattle.std.proofs.Math.Seq.{slice}
use Rattle.lists.specs.Lists.{joined}

-- where each list ends in the joined one, which starts at `at`
unfoldable pub ends_from : ℕ → List (List ℕ) → List ℕ
ends_from at [] = []
ends_from at (l ∷ ls) = (at + length l) ∷ ends_from (at + length l) ls

-- a walk of the levels ls that has still the levels `rest` before it, m numbers being in buf with the start, and k ends in `ends`
pub record Going (ls rest : List (List ℕ)) (buf ends : List ℕ) (m k : ℕ) : Type 0 where
  pub numbers : joined ls ≡ slice 1 m buf ++ joined rest
  pub stops : ends_from 0 ls ≡ take k ends ++ ends_from (m - 1) rest

-- a walk at its end: nothing past the ends of its levels was written
pub record Ran (ls : List (List ℕ)) (ends₀ buf ends : List ℕ) (m k : ℕ) : Type 0 where
  pub start : 1 ≤ m
  pub upto : m ≤ length buf
  pub numbers : joined ls ≡ slice 1 m buf
  pub fits : k ≤ length ends
  pub stops : ends_from 0 ls ≡ take k ends
  pub past : drop k ends ≡ drop k ends₀
