-- One level of a walk, made in work slices: the parents of a number as they are stored, and what a table of the numbers visited holds.
use Rattle.std.specs.Prelude.{◌≡◌, Bool, true, false, List, [], ◌∷◌, ℕ, ◌+◌, ◌≤◌, ◌<◌, length, take}
use Rattle.std.proofs.Math.Seq.{slice}
use Rattle.std.proofs.lemmas.List.Edits.{sets}
use Rattle.lists.specs.Lists.{mem}
use Rattle.columns.specs.Limits.{Served}
use Rattle.columns.specs.EdgeSet.{cut}
use Rattle.columns.specs.Questions.{list_of}

-- a kind that is asked for, of a number of kinds that is served
pub record OfKinds (K kind : ℕ) : Type 0 where
  pub served : Served K
  pub below : kind < K

-- the parents of a number of a kind, out of targets that offsets cut into the lists of the slots from `first` on
unfoldable pub parents_in : (K : ℕ) → ℕ → ℕ → List ℕ → List ℕ → ℕ → List ℕ
parents_in K first kind offsets targets number = list_of K first (cut offsets targets) kind number

-- a list written from a place on
unfoldable pub copied : List ℕ → ℕ → List ℕ → List ℕ
copied l at new = sets l at new

abbrev pub one : Bool → ℕ
one true = 1
one false = 0

-- how many entries of a list are among ys
unfoldable pub hits_in : List ℕ → List ℕ → ℕ
hits_in ys [] = 0
hits_in ys (z ∷ zs) = one (mem z ys) + hits_in ys zs

-- a slice before and after a list was laid behind its first `base` numbers, which stand
pub record Laid (base : ℕ) (was is : List ℕ) (e : ℕ) (new : List ℕ) : Type 0 where
  pub more : base ≤ e
  pub upto : e ≤ length is
  pub size : length is ≡ length was
  pub below : take base is ≡ take base was
  pub list : slice base e is ≡ new

-- until the limit is used up, the first n keys are the numbers visited. They are never more than the entries of a list that has every
-- target and for which there is room
pub record Seen (left n : ℕ) (visited keys targets : List ℕ) : Type 0 where
  pub bound : List ℕ
  pub fits : length bound ≤ length keys
  pub every : (x : ℕ) → mem x targets ≡ true → mem x bound ≡ true
  pub same : 0 < left → (x : ℕ) → mem x (take n keys) ≡ mem x visited
  pub within : 0 < left → length (take n keys) ≤ hits_in (take n keys) bound
