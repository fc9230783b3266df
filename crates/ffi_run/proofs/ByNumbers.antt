-- What a run's steps promise, said by numbers.
use Rattle.std.specs.Prelude.{Err, Ok, Result}
use mathlib.Core.Path.{◌≡◌, ap, sym, ◌∙◌}
use Prim.Native.Nat.{ℕ}
use Rattle.columns.specs.Limits.{kinds}
use Rattle.cleaning.specs.Step.{Call, Answer, refused, counted}
use Rattle.cleaning.specs.Runs.{RunState, run_outcome, run_step}
use Rattle.run.specs.Promises.{replied, counted_as, Steps}
use Rattle.run.specs.declared.Run.{Run}
use Rattle.ffi.specs.Numbers.{answer_of, refusal_of}
use Rattle.ffi.specs.declared.answer.Answer as numbers
use Rattle.columns.specs.declared.refusal.Refusal.{Refusal}
use Rattle.ffi_run.specs.Steps.{count_of, StepsBy}

-- a step, by the number of its reply
pub steps-by : (c : Call) (before after : Run) (a : Result (Unit {0}) Refusal) {n : ℕ} → Steps c before after a → n ≡ refusal_of (replied a) → StepsBy c before (record { run = after; refusal = n })
unfolding refusal_of
steps-by c before after (Ok tt) m e = record { state = m.state; answer = e ∙ ap refusal_of m.answer; kept = λ no. absurd (no e) }
steps-by c before after (Err x) m e = record { state = m.state; answer = e ∙ ap refusal_of m.answer; kept = λ no. m.kept }

-- a step that asks, by its answer
pub answered-by : {B : Type 0} (f : Answer → B) (s : RunState) (c : Call) (a : Answer) {r : B} → run_step kinds s c ≡ run_outcome s a → r ≡ f a → r ≡ f (run_step kinds s c).answer
answered-by f s c a m e = e ∙ sym (ap (λ o. f o.answer) m)

-- a step that counts, by its count
pub counted-by : (s : RunState) (c : Call) (a : Result ℕ Refusal) {r : numbers.Answer} → run_step kinds s c ≡ run_outcome s (counted_as a) → r ≡ answer_of a
    → r ≡ count_of (run_step kinds s c).answer
unfolding answer_of count_of
counted-by s c (Ok n) m e = answered-by count_of s c (counted n) m e
counted-by s c (Err x) m e = answered-by count_of s c (refused x) m e
