-- What the functions that grow a column ask of the bytes that they read.
use Rattle.std.specs.Prelude.{Bool, true, false, List, ℕ, ◌+◌, ◌*◌, ◌≤◌}
use Rattle.lists.specs.Lists.{Each}
use Rattle.columns.specs.Limits.{max_records}

-- n things of w bytes each from place p on lie inside l bytes
abbrev pub Room : ℕ → ℕ → ℕ → ℕ → Type 0
Room l p w n = p + n * w ≤ l

-- no number is above the number of records that a run may hold
abbrev pub Small : List ℕ → Type 0
Small xs = Each (λ x. x ≤ max_records) xs

-- a flag as a number
abbrev pub bit : Bool → ℕ
bit true = 1
bit false = 0
