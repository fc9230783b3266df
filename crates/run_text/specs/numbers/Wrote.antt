-- What a function that writes a text into lent bytes leaves there and answers.
use Rattle.std.specs.Prelude.{◌≡◌, List, ℕ, ◌+◌, ◌≤◌, length}
use Rattle.std.proofs.lemmas.List.Edits.{sets}

-- `was` became `is` by a text of at most `size` bytes from `at` on, and the answer is the place after it
pub record Wrote (text : List ℕ) (size : ℕ) (was : List ℕ) (at : ℕ) (is : List ℕ) (answer : ℕ) : Type 0 where
  pub stored : is ≡ sets was at text
  pub next : answer ≡ at + length text
  pub short : length text ≤ size
