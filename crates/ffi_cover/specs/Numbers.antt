-- What the functions over the chain cover answer by numbers.
use Rattle.std.specs.Prelude.{Bool, true, false, ℕ, Err, Ok, Result}
use Rattle.columns.specs.Refusal.{number_of}
use Rattle.ffi.specs.Numbers.{answer_of}
use Rattle.ffi.specs.declared.answer.Answer.{Answer}
use Rattle.ffi_cover.specs.declared.covers.Held.{Held}
use Rattle.columns.specs.declared.refusal.Refusal.{Refusal}
use Rattle.ffi_cover.specs.declared.covers.Covered.{Covered}

abbrev pub records_of : Result ℕ Refusal → Answer
records_of = answer_of

unfoldable pub held_of : Result Bool Refusal → Held
held_of (Ok true) = record { refusal = 0; holds = 1 }
held_of (Ok false) = record { refusal = 0; holds = 0 }
held_of (Err r) = record { refusal = number_of r; holds = 0 }

unfoldable pub covered_of : Result (ℕ × ℕ) Refusal → Covered
covered_of (Ok (ranges, links)) = record { refusal = 0; ranges = ranges; links = links }
covered_of (Err r) = record { refusal = number_of r; ranges = 0; links = 0 }
