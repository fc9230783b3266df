-- Document 01, "Refused for the state" and "Archive records": what writing a sheet answers, and what it leaves in the bytes that it is lent.
use Rattle.std.specs.Prelude.{◌≡◌, List, ℕ, ◌≤◌, length, take, drop, Err, Ok, Result}
use Rattle.columns.specs.Limits.{kinds}
use Rattle.cleaning.specs.Sheet.{Sheet, summary_of}
use Rattle.cleaning.specs.Writing.{written}
use Rattle.columns.specs.declared.refusal.Refusal.{Refusal}
use Rattle.cleaning.specs.Step.{Bytes, Answer, refused, wrote, write_into}

-- how many bytes an answer speaks of
abbrev pub length_of : Result ℕ Refusal → ℕ
length_of (Ok n) = n
length_of (Err x) = 0

-- the answer of a call that makes bytes: their number, with the bytes up to it
abbrev pub answer_of : (Bytes → Answer) → Result ℕ Refusal → List ℕ → Answer
answer_of made (Ok n) is = made (record { length = n; bytes = take n is })
answer_of made (Err x) is = refused x

-- what such a call gives for as much room as was lent: no more bytes than that, and past them all is as it was
pub record Gives (made : Bytes → Answer) (answer : ℕ → Answer) (was is : List ℕ) (r : Result ℕ Refusal) : Type 0 where
  pub answers : answer_of made r is ≡ answer (length was)
  pub rest : drop (length_of r) is ≡ drop (length_of r) was
  pub within : length_of r ≤ length was

-- a sheet written
abbrev pub Wrote : Sheet → List ℕ → List ℕ → Result ℕ Refusal → Type 0
Wrote s = Gives wrote (λ room. write_into room (written kinds (summary_of kinds s)))
