-- Document 02, L1: what is asked of each row's references, asked of the columns that they stand in.
use Rattle.std.specs.Prelude.{Bool, ◌&&◌, List, ℕ, eqb, leb, length}
use Rattle.lists.specs.Lists.{all, filter}
use Rattle.columns.specs.EdgeSet.{cut}

-- no number is above the greatest
unfoldable pub up_to : ℕ → List ℕ → Bool
up_to greatest xs = all (λ x. leb x greatest) xs

-- how often a kind stands among a row's
unfoldable pub times_in : ℕ → List ℕ → ℕ
times_in kind ks = length (filter (λ k. eqb k kind) ks)

unfoldable pub once_at_most : ℕ → List ℕ → Bool
once_at_most kind ks = leb (times_in kind ks) 1

-- kinds to 5 and spaces to 3; in each row at most one parent, 3, and one root, 5
unfoldable pub columns_ok : List ℕ → List ℕ → List ℕ → Bool
columns_ok offsets kinds spaces =
    (up_to 5 kinds && up_to 3 spaces) && (all (once_at_most 3) (cut offsets kinds) && all (once_at_most 5) (cut offsets kinds))
