-- Document 01, "Walk and shared ancestor", `GraphWalk::next`: levels of parents.
use Rattle.std.specs.Prelude.{cond, not, List, [], ◌∷◌, ◌++◌, ℕ, zero, suc, ◌-◌, length, take}
use Rattle.lists.specs.Lists.{flat, filter, mem, once, is_empty, sum}
use Rattle.lists.specs.Order.{sort}
use Rattle.columns.specs.Refusal.{Verdict, unless, first_of, Lent, limits}
use Rattle.columns.specs.EdgeSet.{EdgeSet, forward}
use Rattle.columns.specs.Reading.{set_rules, slots_of, set_lengths}
use Rattle.columns.specs.Questions.{list_of}

module _ (parents_of : ℕ → List ℕ) where
  -- a level: all parents of the last level that were not visited, each once, sorted; past the limit only the smallest stay
  unfoldable pub level : ℕ → List ℕ → List ℕ → List ℕ
  level limit visited frontier = take limit (sort (once (filter (λ n. not (mem n visited)) (flat parents_of frontier))))

  -- level after level. The walk ends when the limit is used up or a level is empty. Every level uses up some of the limit, so the limit
  -- itself bounds the number of levels
  unfoldable pub levels_from : ℕ → ℕ → List ℕ → List ℕ → List (List ℕ)
  levels_from zero limit visited frontier = []
  levels_from (suc bound) limit visited frontier =
      let found = level limit visited frontier in
      let rest = found ∷ levels_from bound (limit - length found) (visited ++ found) found in
      cond (is_empty found) [] rest

  -- the levels of a walk from a start, which is visited and not handed out
  unfoldable pub levels : ℕ → ℕ → List (List ℕ)
  levels limit start = levels_from limit limit (start ∷ []) (start ∷ [])

-- what a walk answers: its levels, and how many numbers it has handed out
pub record Walked : Type 0 where
  pub levels : List (List ℕ)
  pub count : ℕ

unfoldable pub walked : List (List ℕ) → Walked
walked ls = record { levels = ls; count = sum length ls }

-- a walk over one file's forward columns; other numbers have no parents there
unfoldable pub walk : (K : ℕ) → ℕ → ℕ → ℕ → EdgeSet → ℕ → ℕ → ℕ → List Lent → Verdict Walked
walk K first rows end f kind limit start lent =
    unless (first_of (limits (rows ∷ []) (set_lengths f) lent ∷ set_rules K forward first rows end f ∷ []))
    (walked (levels (list_of K first (slots_of K first f) kind) limit start))
