-- Where a number stands in a column that doesn't fall.
use Rattle.std.specs.Prelude.{ℕ, suc, cond, List, [], ◌∷◌, nat_lt}

-- how many numbers stand before the first that is not below x
unfoldable pub place_of : ℕ → List ℕ → ℕ
place_of x [] = 0
place_of x (y ∷ ys) = cond (nat_lt y x) (suc (place_of x ys)) 0
