-- Document 01, "Cleaning": survivors get consecutive numbers from the start, in old order. A flag for each event, 0 where it survives.
use Rattle.std.specs.Prelude.{cond, List, [], ◌∷◌, ℕ, ◌+◌, eqb}
use Rattle.lists.specs.Lists.{sum}

-- how many numbers an event takes: one, or none where it is erased
unfoldable pub takes : ℕ → ℕ
takes flag = cond (eqb flag 0) 1 0

-- for every event the number that a survivor there gets, the first one n
unfoldable pub numbers_from : ℕ → List ℕ → List ℕ
numbers_from n [] = []
numbers_from n (f ∷ fs) = n ∷ numbers_from (n + takes f) fs

-- how many events survive
unfoldable pub survivors : List ℕ → ℕ
survivors flags = sum takes flags
