-- Document 01, "Walk and shared ancestor": some number that two numbers reach in zero or more parent steps, none exactly if there is none.
use mathlib.Core.List.{List, Memᴰ}
use Rattle.std.proofs.Math.Option.{Option, none, some}
use Rattle.std.specs.Prelude.{ℕ}

-- a number reaches itself, and whatever a parent of it reaches
pub data Reaches (parents_of : ℕ → List ℕ) : ℕ → ℕ → Type 0 where
  here : {a : ℕ} → Reaches parents_of a a
  up : {a b c : ℕ} → Memᴰ b (parents_of a) → Reaches parents_of b c → Reaches parents_of a c

-- what the answer promises. Which shared ancestor is answered is left free
abbrev pub SharedAncestor : (ℕ → List ℕ) → ℕ → ℕ → Option ℕ → Type 0
SharedAncestor parents_of a b none = (c : ℕ) → Reaches parents_of a c → Reaches parents_of b c → ⊥
SharedAncestor parents_of a b (some c) = Reaches parents_of a c × Reaches parents_of b c
