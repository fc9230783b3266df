-- Demand 1 and 3: what each of a run's functions says of the run that it is given, the run and the answer that it gives back, and the bytes that
-- it is lent. Every one is the step of that call (cleaning/specs/Runs) on what the run stands for.
use Rattle.std.specs.Prelude.{◌≡◌, List, ℕ, Err, None, Ok, Result, Some, Option}
use Rattle.std.proofs.Math.Option.{none, some}
use Rattle.columns.specs.Limits.{kinds}
use Rattle.cleaning.specs.Step.{Call, writes, maps, counts, lists, Answer, refused, done, wrote, told, counted, printed}
use Rattle.cleaning.specs.Runs.{RunState, run_outcome, run_step}
use Rattle.run_write.specs.Answers.{Gives}
use Rattle.run.specs.View.{view}
use Rattle.columns.specs.declared.refusal.Refusal.{Refusal}
use Rattle.run.specs.declared.Run.{Run}

-- ── answers ──────────────────────────────────────────────────────────────────────────────────

abbrev pub replied : Result (Unit {0}) Refusal → Answer
replied (Ok tt) = done
replied (Err x) = refused x

abbrev pub numbered : Result (Option ℕ) Refusal → Answer
numbered (Ok (Some n)) = told (some n)
numbered (Ok None) = told none
numbered (Err x) = refused x

abbrev pub counted_as : Result ℕ Refusal → Answer
counted_as (Ok n) = counted n
counted_as (Err x) = refused x

-- ── contracts ────────────────────────────────────────────────────────────────────────────────

-- a refused call gives back the run that it was given
abbrev pub Kept : Result (Unit {0}) Refusal → Run → Run → Type 0
Kept (Ok tt) before after = Unit {0}
Kept (Err x) before after = after ≡ before

-- taking and resolving: the run and the answer are those of the step
pub record Steps (c : Call) (before after : Run) (r : Result (Unit {0}) Refusal) : Type 0 where
  pub state : view after ≡ (run_step kinds (view before) c).state
  pub answer : replied r ≡ (run_step kinds (view before) c).answer
  pub kept : Kept r before after

-- what a write and a listing into so much room answer
unfoldable pub written_from : RunState → ℕ → Answer
written_from s room = (run_step kinds s (writes room)).answer

unfoldable pub listed_from : RunState → ℕ → Answer
listed_from s room = (run_step kinds s (lists room)).answer

-- writing and listing: the run stays as it is, and gives the step's bytes for as much room as was lent
abbrev pub Writes : Run → List ℕ → List ℕ → Result ℕ Refusal → Type 0
Writes run = Gives wrote (written_from (view run))

abbrev pub Lists : Run → List ℕ → List ℕ → Result ℕ Refusal → Type 0
Lists run = Gives printed (listed_from (view run))

-- asking for the new number of an old one, and for the reparented: the run stays as it is
abbrev pub Maps : Run → ℕ → Result (Option ℕ) Refusal → Type 0
Maps run old r = run_step kinds (view run) (maps old) ≡ run_outcome (view run) (numbered r)

abbrev pub Counts : Run → Result ℕ Refusal → Type 0
Counts run r = run_step kinds (view run) counts ≡ run_outcome (view run) (counted_as r)
