-- The rows before one: their labels, and their chains in a table.
use Rattle.std.specs.Prelude.{◌≡◌, List, [], ◌∷◌, ℕ, zero, suc, get_or, take}
use Rattle.arrays.specs.table.Table.{Table}
use Rattle.columns.specs.Reading.{Label}

-- the labels of the first n rows, the latest first
unfoldable pub earlier_labels : List ℕ → List ℕ → ℕ → List Label
earlier_labels chains seqs zero = []
earlier_labels chains seqs (suc i) = record { chain = get_or chains i 0; seq = get_or seqs i 0 } ∷ earlier_labels chains seqs i

-- the chains of the first n rows are the keys of a table
pub record Held (chains keys links heads : List ℕ) (n : ℕ) : Type 0 where
  pub table : Table keys links heads n
  pub same : take n keys ≡ take n chains
