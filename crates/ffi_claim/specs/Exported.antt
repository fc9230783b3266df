-- Demand 3 over the exported functions: each constructor is literally what a function promises by numbers.
use Rattle.std.specs.Prelude.{◌≡◌, List, [], ◌∷◌, ℕ, length, take}
use Rattle.columns.specs.Limits.{kinds}
use Rattle.cleaning.specs.Step as step
use Rattle.cleaning.specs.Step.{takes, resolves, writes, maps, counts, Bytes}
use Rattle.cleaning.specs.Runs.{RunState, run_step}
use Rattle.cleaning.specs.History.{Did, did}
use Rattle.cleaning.specs.Claim.{Claimed}
use Rattle.run.specs.View.{view}
use Rattle.run.specs.Promises.{written_from}
use Rattle.run.specs.declared.Run.{Run}
use Rattle.run_clean.specs.Cleans.{cleaned_from}
use Rattle.run_claim.specs.Traces.{Fresh}
use Rattle.run_claim.specs.Cleanings.{CleaningsClaimed}
use Rattle.ffi.specs.declared.answer.Answer.{Answer}
use Rattle.ffi_run.specs.Steps.{told_of, count_of, StepsBy}
use Rattle.ffi_run.specs.declared.Step.{Step}
use Rattle.ffi_run.specs.declared.Renumbered.{Renumbered}
use Rattle.ffi_clean.specs.Whole.{GivesBy}

-- ── a run step by step ───────────────────────────────────────────────────────────────────────

-- one call: the run before it, the run after it, the call with the answer that the numbers stand for
pub data Exported : Run → Run → Did → Type 0 where
  took : {run : Run} (bytes : List ℕ) (r : Step) → StepsBy (takes bytes) run r
      → Exported run r.run (did (takes bytes) (run_step kinds (view run) (takes bytes)).answer)
  resolved : {run : Run} (r : Step) → StepsBy resolves run r → Exported run r.run (did resolves (run_step kinds (view run) resolves).answer)
  wrote : {run : Run} (was is : List ℕ) (r : Answer) → GivesBy (written_from (view run)) was is r
      → Exported run run (did (writes (length was)) (written_from (view run) (length was)))
  mapped : {run : Run} (old : ℕ) (r : Renumbered) → r ≡ told_of (run_step kinds (view run) (maps old)).answer
      → Exported run run (did (maps old) (run_step kinds (view run) (maps old)).answer)
  counted : {run : Run} (r : Answer) → r ≡ count_of (run_step kinds (view run) counts).answer
      → Exported run run (did counts (run_step kinds (view run) counts).answer)

pub data ExportedTrace : Run → List Did → Type 0 where
  ended : {run : Run} → ExportedTrace run []
  linked : {before : Run} (after : Run) {d : Did} {h : List Did} → Exported before after d → ExportedTrace after h → ExportedTrace before (d ∷ h)

-- the claim over two traces of exported calls, each from a run that `ridgeoven_new` gives
abbrev pub ClaimOfExported : Type 0
ClaimOfExported = (r s : Run) → Fresh r → Fresh s → (h g : List Did) → ExportedTrace r h → ExportedTrace s g → Claimed kinds h g

-- and a write that answers 0 is an accepted one: of the length that it answers, and of the bytes up to it
abbrev pub WriteSeen : Type 0
WriteSeen = (s : RunState) (was is : List ℕ) (r : Answer) → GivesBy (written_from s) was is r → r.refusal ≡ 0
    → written_from s (length was) ≡ step.wrote (record { length = r.length; bytes = take r.length is })

-- ── an archive in one call ───────────────────────────────────────────────────────────────────

-- an accepted cleaning of bytes has written w: what `ridgeoven_clean` promises where it answers 0
pub data ExportedTo (bytes : List ℕ) : Bytes → Type 0 where
  gave : (was is : List ℕ) (r : Answer) → GivesBy (cleaned_from bytes) was is r → r.refusal ≡ 0 → ExportedTo bytes (record { length = r.length; bytes = take r.length is })

abbrev pub ClaimOfExportedCleanings : Type 0
ClaimOfExportedCleanings = (a b : List ℕ) → CleaningsClaimed ExportedTo a b
