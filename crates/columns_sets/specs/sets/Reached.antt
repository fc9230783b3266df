-- What a set is written from: the lists of a file, as offsets into targets, and a granule of it that keeps 14 and 15.
use Rattle.std.specs.Prelude.{◌≡◌, true, List, ℕ, ◌+◌, ◌*◌, ◌≤◌, ◌<◌, length}
use Rattle.lists.specs.Lists.{all, distinct, part}
use Rattle.columns.specs.Limits.{kinds, end64}
use Rattle.columns.specs.EdgeSet.{EdgeSet, offsets_form, cut, set_of}
use Rattle.columns.specs.Building.{deltas_fit, reverse_lists}

-- the set that holds the lists of n rows from row `from` on
abbrev pub set_at : ℕ → ℕ → ℕ → List (List ℕ) → EdgeSet
set_at first from n lists = set_of kinds (first + from) (part (2 * from) (2 * n) lists)

-- a granule whose targets are all in reach
pub record Reached (first rows from n : ℕ) (offsets targets : List ℕ) : Type 0 where
  pub few : rows ≤ 1024
  pub last : first + rows < end64
  pub inside : from + n ≤ rows
  pub form : offsets_form kinds rows (length targets) offsets ≡ true
  pub fits : deltas_fit kinds (first + from) (part (2 * from) (2 * n) (cut offsets targets)) ≡ true

-- a granule whose edges can be turned round: no parent stands twice in a list, and every child is in reach
pub record Turnable (first rows from n : ℕ) (offsets targets : List ℕ) : Type 0 where
  pub few : rows ≤ 1024
  pub last : first + rows < end64
  pub inside : from + n ≤ rows
  pub form : offsets_form kinds rows (length targets) offsets ≡ true
  pub short : length targets ≤ 4096
  pub once : all distinct (cut offsets targets) ≡ true
  pub fits : deltas_fit kinds (first + from) (part (2 * from) (2 * n) (reverse_lists kinds first rows (cut offsets targets))) ≡ true
