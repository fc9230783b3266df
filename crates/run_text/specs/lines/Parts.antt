-- Document 01, the worked run: the lines of the listing, said of the numbers that they hold.
use Rattle.std.specs.Prelude.{Bool, cond, List, [], ◌∷◌, ℕ}
use Rattle.std.proofs.Math.Option.{none, some}
use Rattle.lists.specs.Lists.{flat}
use Rattle.lists.specs.Text.{text}
use Rattle.cleaning.specs.Lines.{decimal, line, new_word}

-- each word after a space
abbrev pub spaced : List (List ℕ) → List ℕ
spaced words = flat (λ w. 32 ∷ w) words

-- an erased event has no new number
abbrev pub new_text : Bool → ℕ → List ℕ
new_text erased new = new_word (cond erased none (some new))

-- the line of an event
abbrev pub map_text : ℕ → Bool → ℕ → List ℕ
map_text old erased new = line (text "map") (decimal old ∷ new_text erased new ∷ [])

-- the line of a file
abbrev pub head_text : ℕ → ℕ → ℕ → List ℕ
head_text group first rows = line (text "file") (decimal group ∷ decimal first ∷ decimal rows ∷ [])
