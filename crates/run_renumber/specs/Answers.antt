-- What the functions that fill lent slices promise: where the entries end, or that there is no room for them.
use Rattle.std.specs.Prelude.{◌≡◌, List, ℕ, ◌+◌, ◌≤◌, ◌<◌, length, take, None, Some, Option}
use Rattle.std.proofs.Math.Seq.{slice}
use Rattle.lists.specs.Lists.{joined, starts}

-- a column before and after: below `base` as it was, from there up to `end` the list
pub record Grew (base : ℕ) (was is : List ℕ) (end : ℕ) (list : List ℕ) : Type 0 where
  pub room : end ≤ length is
  pub above : base ≤ end
  pub kept : take base is ≡ take base was
  pub holds : slice base end is ≡ list

-- full exactly where the list does not fit the column from `base` on
abbrev pub Exact : Option ℕ → ℕ → List ℕ → List ℕ → List ℕ → Type 0
Exact (Some end) base was is list = Grew base was is end list
Exact None base was is list = length is < base + length list

-- the first s lists are `lists`: where each starts, and their entries up to `end`
pub record Built (offsets targets : List ℕ) (s end : ℕ) (lists : List (List ℕ)) : Type 0 where
  pub count : length lists ≡ s
  pub room : s + 1 ≤ length offsets
  pub filled : end ≤ length targets
  pub begins : take (s + 1) offsets ≡ starts 0 lists
  pub entries : take end targets ≡ joined lists

-- full exactly where the lists together have more entries than the column holds (43)
abbrev pub Result : Option ℕ → List ℕ → List ℕ → ℕ → List (List ℕ) → Type 0
Result (Some end) offsets targets s lists = Built offsets targets s end lists
Result None offsets targets s lists = length targets < length (joined lists)
