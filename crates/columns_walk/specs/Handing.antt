-- What a walk and the shared ancestor answer, and what they leave in lent slices, as views of the verdicts that the definitions give.
use Rattle.std.specs.Prelude.{◌≡◌, List, [], ◌∷◌, ℕ, length, Err, None, Ok, Result, Some}
use Rattle.std.proofs.Math.Option.{Option, none, some}
use Rattle.std.specs.declared.option.Option as rust
use Rattle.lists.specs.Lists.{joined}
use Rattle.columns.specs.Limits.{numbers_room}
use Rattle.columns.specs.Refusal.{Verdict, refused, accepted, Lent}
use Rattle.columns.specs.Walk.{Walked}
use Rattle.columns.specs.Ancestor.{SharedAncestor}
use Rattle.columns.specs.declared.refusal.Refusal.{Refusal}
use Rattle.columns_levels.specs.rounds.Rounds.{ends_from}

-- two slices of these lengths, lent for numbers and for ends
abbrev pub rooms : ℕ → ℕ → List Lent
rooms a b = record { has = a; needs = numbers_room } ∷ record { has = b; needs = numbers_room } ∷ []

-- how many levels a walk has and how many numbers it hands out, or the refusal
unfoldable pub handed_of : Verdict Walked → Result (ℕ × ℕ) Refusal
handed_of (refused r) = Err r
handed_of (accepted w) = Ok (length w.levels, w.count)

-- its numbers, level after level
unfoldable pub numbers_of : Verdict Walked → Verdict (List ℕ)
numbers_of (refused r) = refused r
numbers_of (accepted w) = accepted (joined w.levels)

-- where each of its levels ends among them
unfoldable pub ends_of : Verdict Walked → Verdict (List ℕ)
ends_of (refused r) = refused r
ends_of (accepted w) = accepted (ends_from 0 w.levels)

-- what is promised of the shared ancestor of a and b: the refusal is that of the rules, and an answer is given where they are kept.
-- Which of the shared ancestors it is, is left free
abbrev pub Promised : Result (rust.Option ℕ) Refusal → Option Refusal → (ℕ → List ℕ) → ℕ → ℕ → Type 0
Promised (Err r) rules parents_of a b = rules ≡ some r
Promised (Ok (Some c)) rules parents_of a b = (rules ≡ none) × SharedAncestor parents_of a b (some c)
Promised (Ok None) rules parents_of a b = (rules ≡ none) × SharedAncestor parents_of a b none
