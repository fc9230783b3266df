-- The rows of links whose from chain is one of the given chains.
use Rattle.std.specs.Prelude.{cond, List, [], ◌∷◌, ℕ, suc, eqb}
use Rattle.lists.specs.Lists.{filter, mem}
use Rattle.cover.specs.Chains.{Link}

-- how many numbers from the start on are x
unfoldable pub run_of : ℕ → List ℕ → ℕ
run_of x [] = 0
run_of x (y ∷ ys) = cond (eqb y x) (suc (run_of x ys)) 0

-- the places of the from chains that are among the chains, the first place being p
unfoldable pub rows_of : List ℕ → ℕ → List ℕ → List ℕ
rows_of chains p [] = []
rows_of chains p (x ∷ xs) = cond (mem x chains) (p ∷ rows_of chains (suc p) xs) (rows_of chains (suc p) xs)

-- the links from any of the chains
unfoldable pub links_from : List ℕ → List Link → List Link
links_from chains ls = filter (λ l. mem l.from_chain chains) ls
