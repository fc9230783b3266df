-- What a run's steps answer by numbers.
use Rattle.std.specs.Prelude.{◌≡◌}
use Rattle.std.proofs.Math.Option.{none, some}
use Rattle.columns.specs.Limits.{kinds}
use Rattle.columns.specs.Refusal.{number_of}
use Rattle.cleaning.specs.Step.{Call, Answer, refused, done, wrote, told, counted, printed}
use Rattle.cleaning.specs.Runs.{run_step}
use Rattle.run.specs.View.{view}
use Rattle.run.specs.declared.Run.{Run}
use Rattle.ffi.specs.Numbers.{entries, no_entries, refusal_of}
use Rattle.ffi.specs.declared.answer.Answer as numbers
use Rattle.ffi_run.specs.declared.Step.{Step}
use Rattle.ffi_run.specs.declared.Renumbered.{Renumbered}

-- a new number
unfoldable pub told_of : Answer → Renumbered
told_of (refused x) = record { refusal = number_of x; known = 0; number = 0 }
told_of done = record { refusal = 0; known = 0; number = 0 }
told_of (wrote w) = record { refusal = 0; known = 0; number = 0 }
told_of (told none) = record { refusal = 0; known = 0; number = 0 }
told_of (told (some n)) = record { refusal = 0; known = 1; number = n }
told_of (counted n) = record { refusal = 0; known = 0; number = 0 }
told_of (printed t) = record { refusal = 0; known = 0; number = 0 }

-- a count
unfoldable pub count_of : Answer → numbers.Answer
count_of (refused x) = no_entries x
count_of done = entries 0
count_of (wrote w) = entries 0
count_of (told n) = entries 0
count_of (counted n) = entries n
count_of (printed t) = entries 0

-- the run and the refusal are those of the step; a refused one gives back the run that it was given
pub record StepsBy (c : Call) (before : Run) (r : Step) : Type 0 where
  pub state : view r.run ≡ (run_step kinds (view before) c).state
  pub answer : r.refusal ≡ refusal_of (run_step kinds (view before) c).answer
  pub kept : (r.refusal ≡ 0 → ⊥) → r.run ≡ before
