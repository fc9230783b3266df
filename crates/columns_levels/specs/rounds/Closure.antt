-- All that a number reaches, as a list of keys that grows until it has the parents of each of its numbers.
use Rattle.std.specs.Prelude.{◌≡◌, true, false, List, ◌∷◌, ℕ, ◌≤◌, ◌<◌, length, get_or, None, Some}
use Rattle.std.proofs.Math.Option.{Option, none, some}
use Rattle.std.specs.declared.option.Option as rust
use Rattle.lists.specs.Lists.{mem}
use Rattle.columns.specs.Ancestor.{Reaches, SharedAncestor}
use Rattle.columns_levels.specs.frontier.Frontier.{hits_in}

-- the numbers l are those that a reaches
pub record All (p : ℕ → List ℕ) (a : ℕ) (l : List ℕ) : Type 0 where
  pub only : (x : ℕ) → mem x l ≡ true → Reaches p a x
  pub every : (x : ℕ) → Reaches p a x → mem x l ≡ true

-- the numbers l were reached from a, and the parents of the first i are among them; they are no more than a and the targets
pub record Grown (p : ℕ → List ℕ) (a : ℕ) (targets l : List ℕ) (i : ℕ) : Type 0 where
  pub only : (x : ℕ) → mem x l ≡ true → Reaches p a x
  pub start : mem a l ≡ true
  pub closed : (j : ℕ) → j < i → (x : ℕ) → mem x (p (get_or l j 0)) ≡ true → mem x l ≡ true
  pub within : length l ≤ hits_in l (a ∷ targets)

-- none of os is among ks
pub record Free (ks os : List ℕ) : Type 0 where
  pub none : (x : ℕ) → mem x os ≡ true → mem x ks ≡ false

-- a number of both lists, or none where there is none
abbrev pub Apart : rust.Option ℕ → List ℕ → List ℕ → Type 0
Apart (Some x) ks os = (mem x ks ≡ true) × (mem x os ≡ true)
Apart None ks os = (x : ℕ) → mem x os ≡ true → mem x ks ≡ false

abbrev pub found_of : rust.Option ℕ → Option ℕ
found_of (Some x) = some x
found_of None = none

-- what is promised of an answer
abbrev pub Answer : rust.Option ℕ → (ℕ → List ℕ) → ℕ → ℕ → Type 0
Answer r p a b = SharedAncestor p a b (found_of r)
