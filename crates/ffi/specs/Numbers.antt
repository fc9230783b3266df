-- What every function of the libraries answers by numbers: a refusal is document 01's number and nothing else, an answer 0 and what was found.
use Rattle.std.specs.Prelude.{Bool, not, ℕ, eqb, Err, Ok, Result}
use Rattle.columns.specs.Refusal.{number_of}
use Rattle.columns.specs.declared.refusal.Refusal.{Refusal}
use Rattle.cleaning.specs.Step as step
use Rattle.ffi.specs.declared.answer.Answer.{Answer}
use Rattle.ffi.specs.declared.granule.Granule.{Granule}

-- a flag that is given: 0 is no, any other number yes
unfoldable pub flag_at : ℕ → Bool
flag_at n = not (eqb n 0)

-- so many entries, and a refusal
abbrev pub entries : ℕ → Answer
entries n = record { refusal = 0; length = n }

abbrev pub no_entries : Refusal → Answer
no_entries r = record { refusal = number_of r; length = 0 }

unfoldable pub answer_of : Result ℕ Refusal → Answer
answer_of (Ok n) = entries n
answer_of (Err r) = no_entries r

-- the edges of three sets, and a refusal
abbrev pub edges : ℕ → ℕ → ℕ → Granule
edges f r i = record { refusal = 0; forward = f; reverse = r; inbound = i }

abbrev pub no_edges : Refusal → Granule
no_edges r = record { refusal = number_of r; forward = 0; reverse = 0; inbound = 0 }

-- the number of a step's refusal, or 0
unfoldable pub refusal_of : step.Answer → ℕ
refusal_of (step.refused x) = number_of x
refusal_of step.done = 0
refusal_of (step.wrote w) = 0
refusal_of (step.told n) = 0
refusal_of (step.counted n) = 0
refusal_of (step.printed t) = 0
