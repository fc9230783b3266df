-- What columns that passed their rules are, for the functions that read targets out of them.
use Rattle.std.specs.Prelude.{◌≡◌, true, List, ℕ, ◌+◌, ◌*◌, ◌≤◌, ℤ, length}
use Rattle.std.proofs.Math.Option.{none}
use Rattle.columns.specs.Limits.{max_numbers}
use Rattle.columns.specs.EdgeSet.{EdgeSet, cut, from_to}
use Rattle.columns.specs.Reading.{sound_from, set_rules}

-- a set whose rules are kept, whichever set it is, however many rows it has and wherever its file ends
pub record Readable (K : ℕ) (first : ℕ) (s : EdgeSet) : Type 0 where
  pub set : ℕ
  pub rows : ℕ
  pub end : ℕ
  pub kept : set_rules K set first rows end s ≡ none
  pub few : length s.deltas ≤ max_numbers

-- the same of the columns of a set that has edges, with as many slots as its rows have
pub record Edged (K : ℕ) (first : ℕ) (offsets : List ℕ) (deltas : List ℤ) : Type 0 where
  pub set : ℕ
  pub end : ℕ
  pub rows : ℕ
  pub whole : length offsets ≡ K * rows + 1
  pub climbs : from_to 0 (length deltas) offsets ≡ true
  pub sides : sound_from K set first end 0 (cut offsets deltas) ≡ true
  pub few : length deltas ≤ max_numbers
