-- Document 01, "Chain cover": the window question and the links question. Each first reads, by 22, what it uses.
use Rattle.std.specs.Prelude.{Bool, ◌&&◌, List, [], ◌∷◌, ℕ, leb, eqb, length}
use Rattle.lists.specs.Lists.{any, filter, mem}
use Rattle.columns.specs.Refusal.{Verdict, unless, first_of, Lent, limits}
use Rattle.cover.specs.Chains.{Range, Link}
use Rattle.cover.specs.Cover.{LinkColumns, range_rules, link_rules, stored_links}

-- a window low to high meets a range when minimum ≤ high and low ≤ maximum, also where low is above high
unfoldable pub meets : ℕ → ℕ → ℕ → Range → Bool
meets chain low high r = eqb r.chain chain && (leb r.least high && leb low r.greatest)

-- `graph_may_hold_chain`
unfoldable pub may_hold_chain : List Range → ℕ → ℕ → ℕ → Verdict Bool
may_hold_chain rs chain low high = unless (first_of (limits (length rs ∷ []) [] [] ∷ range_rules rs ∷ [])) (any (meets chain low high) rs)

-- `graph_chain_links`: the links from any of the chains, in the cover's order; chains come in any order, repeats count once
unfoldable pub chain_links : LinkColumns → List ℕ → List Lent → Verdict (List Link)
chain_links c chains lent =
    unless (first_of (limits (length c.from_chains ∷ length c.from_seqs ∷ length c.to_chains ∷ length c.to_seqs ∷ []) (length chains ∷ []) lent ∷ link_rules c ∷ []))
    (filter (λ l. mem l.from_chain chains) (stored_links c))
