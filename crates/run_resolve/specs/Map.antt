-- Document 01, "Cleaning": the old-to-new map, by the flags of the rows and as the code's answer.
use Rattle.std.specs.Prelude.{cond, List, ℕ, eqb, get_or, None, Some}
use Rattle.std.proofs.Math.Option.{Option, none, some}
use Rattle.std.specs.declared.option.Option as rust
use Rattle.run_renumber.specs.Numbers.{numbers_from}

-- the new number of the i-th row: nothing where it is erased
unfoldable pub row_number : ℕ → List ℕ → ℕ → Option ℕ
row_number start flags i = cond (eqb (get_or flags i 0) 0) (some (get_or (numbers_from start flags) i 0)) none

unfoldable pub mapped_of : Option ℕ → rust.Option ℕ
mapped_of none = None
mapped_of (some n) = Some n
