-- What a column holds at places, and whether it has them all.
use Rattle.std.specs.Prelude.{Bool, List, map, ℕ, ltb, get_or}
use Rattle.lists.specs.Lists.{all}

-- what a column holds at places
unfoldable pub picked : List ℕ → List ℕ → List ℕ
picked column rows = map (λ i. get_or column i 0) rows

-- every place is below m
unfoldable pub within : ℕ → List ℕ → Bool
within m rows = all (λ i. ltb i m) rows
