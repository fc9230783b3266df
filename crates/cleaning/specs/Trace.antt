-- Demand 3 as the caller sees it: the same claim over traces of contracts. Each link of a trace is what a function's contract says of the run
-- that it was given, its call, the run that it gave back and its answer, by the steps that the contracts cite (Runs).
use Rattle.std.specs.Prelude.{ℕ, List, [], ◌∷◌, ◌≡◌}
use Rattle.cleaning.specs.Step.{Call, Answer}
use Rattle.cleaning.specs.Runs.{RunState, fresh_run, RunOutcome, run_step}
use Rattle.cleaning.specs.History.{Did, did}
use Rattle.cleaning.specs.Claim.{Claimed}

-- over any type of runs and of answers, with what each stands for
module _ (K : ℕ) (Run Reply : Type 0) (view : Run → RunState) (answered : Reply → Answer) where
  -- a call's contract: the run given back and the answer are those of the step
  pub record Meets (after : Run) (reply : Reply) (o : RunOutcome) : Type 0 where
    pub state : view after ≡ o.state
    pub answer : answered reply ≡ o.answer

  -- the calls and answers from a run on, each as its contract has it
  pub data Trace : Run → List Did → Type 0 where
    ended : {before : Run} → Trace before []
    called : {before : Run} (after : Run) (c : Call) (reply : Reply) {h : List Did}
        → Meets after reply (run_step K (view before) c) → Trace after h → Trace before (did c (answered reply) ∷ h)

  -- the claim over two traces from fresh runs
  abbrev pub ClaimOfTraces : Type 0
  ClaimOfTraces = (r s : Run) → view r ≡ fresh_run → view s ≡ fresh_run → (h g : List Did) → Trace r h → Trace s g → Claimed K h g
