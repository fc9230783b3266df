-- Places: the link that stands at a place of four columns, and those from a place on.
use Rattle.std.specs.Prelude.{List, ℕ, get_or, drop}
use Rattle.cover.specs.Chains.{Link}
use Rattle.cover.specs.Cover.{links_of}
use Rattle.cover.specs.Answers.{link}

-- the link at a place of four columns
unfoldable pub row_at : List ℕ → List ℕ → List ℕ → List ℕ → ℕ → Link
row_at a b c d i = link (get_or a i 0) (get_or b i 0) (get_or c i 0) (get_or d i 0)

-- the links of four columns from a place on
unfoldable pub rows_from : List ℕ → List ℕ → List ℕ → List ℕ → ℕ → List Link
rows_from a b c d i = links_of (drop i a) (drop i b) (drop i c) (drop i d)
