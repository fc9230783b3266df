-- What the cursor answers at a place: the number there, or 23.
use Rattle.std.specs.Prelude.{List, ℕ, ℤ, Err, Ok, Result}
use Rattle.columns.specs.Refusal.{Verdict, refused, accepted, unless}
use Rattle.archive_bytes.specs.Bytes.{be, signed_of}
use Rattle.columns.specs.declared.refusal.Refusal.{Refusal}
use Rattle.archive_cursor.specs.Short.{cut_off}

-- a verdict on an unsigned number, and on a signed one, as the cursor says it
abbrev pub number_by : Verdict ℕ → Result ℕ Refusal
number_by (refused r) = Err r
number_by (accepted n) = Ok n

abbrev pub delta_by : Verdict ℤ → Result ℤ Refusal
delta_by (refused r) = Err r
delta_by (accepted d) = Ok d

-- a verdict on a number of any type
abbrev pub answer_by : {A : Type 0} → Verdict A → Result A Refusal
answer_by (refused r) = Err r
answer_by (accepted x) = Ok x

-- what the number of w bytes at place p stands for
unfoldable pub read_as : {A : Type 0} → (ℕ → A) → ℕ → List ℕ → ℕ → Result A Refusal
read_as f w l p = answer_by (unless (cut_off w l p) (f (be w l p)))

-- the number of w bytes at place p
unfoldable pub number_at : ℕ → List ℕ → ℕ → Result ℕ Refusal
number_at w l p = number_by (unless (cut_off w l p) (be w l p))

-- the signed number of 8 bytes at place p
unfoldable pub delta_at : List ℕ → ℕ → Result ℤ Refusal
delta_at l p = delta_by (unless (cut_off 8 l p) (signed_of (be 8 l p)))
