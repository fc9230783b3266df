-- What cleaning and listing an archive, and the words of a refusal, answer by numbers: 0 and how many bytes were written, or a refusal.
use Rattle.std.specs.Prelude.{cond, List, [], ◌≡◌, ℕ, ◌≤◌, ltb, length, get_or, take, drop, Err, Ok, Result}
use Rattle.columns.specs.declared.refusal.Refusal.{Refusal}
use Rattle.columns.specs.declared.refusal.Refusal.TheVariants.{SliceShort}
use Rattle.cleaning.specs.Step as step
use Rattle.messages.specs.words.Words.{table}
use Rattle.ffi.specs.Numbers.{answer_of, refusal_of}
use Rattle.ffi.specs.declared.answer.Answer.{Answer}

-- a length, or a refusal
abbrev pub numbered : Result ℕ Refusal → Answer
numbered = answer_of

-- the bytes of a step's answer; a step that writes none has none
unfoldable pub bytes_of : step.Answer → step.Bytes
bytes_of (step.refused x) = step.all_of []
bytes_of step.done = step.all_of []
bytes_of (step.wrote w) = w
bytes_of (step.told n) = step.all_of []
bytes_of (step.counted n) = step.all_of []
bytes_of (step.printed t) = t

-- what a number means into so much room: 41 where there is less than the longest words take
unfoldable pub words_from : ℕ → ℕ → step.Answer
words_from n room = cond (ltb room 120) (step.refused SliceShort) (step.wrote (step.all_of (get_or table n [])))

-- the answer for as much room as was lent: its number, its bytes from the first on, and past them all is as it was
pub record GivesBy (answer : ℕ → step.Answer) (was is : List ℕ) (r : Answer) : Type 0 where
  pub refused : r.refusal ≡ refusal_of (answer (length was))
  pub counted : r.length ≡ (bytes_of (answer (length was))).length
  pub bytes : take r.length is ≡ (bytes_of (answer (length was))).bytes
  pub rest : drop r.length is ≡ drop r.length was
  pub within : r.length ≤ length was
