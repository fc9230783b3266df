-- Document 01, "Cleaning": columns of rows and of their records after the erased rows are gone.
use Rattle.std.specs.Prelude.{Bool, not, List, map, ℕ, ◌-◌, eqb, length, get_or}
use Rattle.lists.specs.Lists.{filter}
use Rattle.cleaning.specs.Survivors.{keep}

-- which rows are erased, by flags that are 0 where a row survives
unfoldable pub gone : List ℕ → List Bool
gone flags = map (λ f. not (eqb f 0)) flags

-- how many rows survive
unfoldable pub survive : List ℕ → ℕ
survive flags = length (filter not (gone flags))

-- a column's elements of the rows that survive
abbrev pub kept_in : {A : Type 0} → List ℕ → List A → List A
kept_in flags xs = keep (gone flags) xs

-- the flags of the rows that records name; rows count from `base`
unfoldable pub flags_of : ℕ → List ℕ → List ℕ → List ℕ
flags_of base flags rows = map (λ x. get_or flags (x - base) 0) rows

-- rows under their new numbers, which count from `less`
unfoldable pub new_rows : ℕ → ℕ → List ℕ → List ℕ → List ℕ
new_rows base less numbers rows = map (λ x. get_or numbers (x - base) 0 - less) rows
