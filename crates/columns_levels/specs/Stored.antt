-- Stored parents as the parents that a number has.
use Rattle.std.specs.Prelude.{List, ℕ}
use Rattle.columns_levels.specs.frontier.Frontier.{parents_in}
use Rattle.columns_levels.specs.declared.parents.Parents.{Parents}

abbrev pub parents_of : Parents → ℕ → List ℕ
parents_of p = parents_in p.width p.first p.kind p.offsets.now p.targets.now
