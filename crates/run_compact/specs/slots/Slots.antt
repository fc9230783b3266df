-- Document 01, "Cleaning": the lists of the rows that survive, one slot after the other.
use Rattle.std.specs.Prelude.{cond, List, [], ◌∷◌, ℕ, suc, ◌/◌, eqb, get_or}
use Rattle.columns.specs.Limits.{kinds}

-- the lists of the slots from s on whose rows survive, by flags that are 0 where a row does
unfoldable pub slots_from : List ℕ → ℕ → List (List ℕ) → List (List ℕ)
slots_from flags s [] = []
slots_from flags s (ps ∷ lists) = cond (eqb (get_or flags (s / kinds) 0) 0) (ps ∷ slots_from flags (suc s) lists) (slots_from flags (suc s) lists)
