-- Demand 3 over a run's functions: a trace is a list of their calls from a run on, each link literally what the function's contract says of the
-- run before and after, the bytes taken, and the bytes lent and written.
use Rattle.std.specs.Prelude.{◌≡◌, List, [], ◌∷◌, map, ℕ, ◌≤◌, length, Result, Option}
use Rattle.columns.specs.Limits.{kinds}
use Rattle.lists.specs.Lists.{Each}
use Rattle.archive.specs.File.{File}
use Rattle.archive.specs.Encode.{encode}
use Rattle.cleaning.specs.Step as step
use Rattle.cleaning.specs.Step.{Call, takes, resolves, writes, maps, counts, lists, Bytes, all_of}
use Rattle.cleaning.specs.Runs.{fresh_run}
use Rattle.cleaning.specs.History.{archive_of_files, Did, did, archive_in, Wrote, cleaned}
use Rattle.cleaning.specs.Claim.{Claimed}
use Rattle.cleaning.specs.NewParents.{OfBytes, Renewed}
use Rattle.cleaning.specs.Accepted.{Cleanable}
use Rattle.run_write.specs.Answers.{answer_of}
use Rattle.run.specs.View.{view}
use Rattle.run.specs.Promises.{replied, numbered, counted_as, Steps, Writes, Lists, Maps, Counts}
use Rattle.run.specs.declared.Run.{Run}
use Rattle.columns.specs.declared.refusal.Refusal.{Refusal}
use Rattle.run.specs.declared.Stepped.{Stepped}

-- one call: the run before it, the run after it, the call with its answer
pub data Link : Run → Run → Did → Type 0 where
  took : {run : Run} (bytes : List ℕ) (r : Stepped) → Steps (takes bytes) run r.run r.reply → Link run r.run (did (takes bytes) (replied r.reply))
  resolved : {run : Run} (r : Stepped) → Steps resolves run r.run r.reply → Link run r.run (did resolves (replied r.reply))
  wrote : {run : Run} (was is : List ℕ) (r : Result ℕ Refusal) → Writes run was is r → Link run run (did (writes (length was)) (answer_of step.wrote r is))
  mapped : {run : Run} (old : ℕ) (r : Result (Option ℕ) Refusal) → Maps run old r → Link run run (did (maps old) (numbered r))
  counted : {run : Run} (r : Result ℕ Refusal) → Counts run r → Link run run (did counts (counted_as r))
  listed : {run : Run} (was is : List ℕ) (r : Result ℕ Refusal) → Lists run was is r → Link run run (did (lists (length was)) (answer_of step.printed r is))

pub data Trace : Run → List Did → Type 0 where
  ended : {run : Run} → Trace run []
  linked : {before : Run} (after : Run) {d : Did} {h : List Did} → Link before after d → Trace after h → Trace before (d ∷ h)

-- a fresh run, as `new` gives it
abbrev pub Fresh : Run → Type 0
Fresh run = view run ≡ fresh_run

-- the claim, over two traces from fresh runs
abbrev pub ClaimOfRuns : Type 0
ClaimOfRuns = (r s : Run) → Fresh r → Fresh s → (h g : List Did) → Trace r h → Trace s g → Claimed kinds h g

-- the call of a link
abbrev pub call_of : Did → Call
call_of (did c a) = c

-- demand 2's sentence on new parents, over a trace from a fresh run whose takings are given bytes
abbrev pub ParentsWrittenByRuns : Type 0
ParentsWrittenByRuns = (run : Run) → Fresh run → (h : List Did) → Trace run h → Each OfBytes (map call_of h) → (w : Bytes) → Wrote h w
    → Renewed kinds (archive_in kinds h) w.bytes

-- ── the claim speaks of something ────────────────────────────────────────────────────────────

-- a trace of three calls: an archive taken, the run resolved, and a write into so many bytes
abbrev pub Cleans : List ℕ → ℕ → List Did → Type 0
Cleans bytes room h = map call_of h ≡ takes bytes ∷ resolves ∷ writes room ∷ []

-- valid files within the limits, with a survivor in every group and neither 10 nor 15, are taken, resolved and written by a fresh run
abbrev pub AcceptedByRuns : Type 0
AcceptedByRuns = (fs : List File) → Cleanable kinds fs → (room : ℕ) → length (cleaned kinds (archive_of_files kinds fs)) ≤ room
    → (run : Run) → Fresh run → (h : List Did) → Trace run h → Cleans (encode fs) room h → Wrote h (all_of (cleaned kinds (archive_of_files kinds fs)))

-- a cleaned archive, taken alone by a fresh run, is written as the same bytes
abbrev pub SameAgain : Type 0
SameAgain = (fs : List File) → Cleanable kinds fs → (room : ℕ) → length (cleaned kinds (archive_of_files kinds fs)) ≤ room
    → (run : Run) → Fresh run → (h : List Did) → Trace run h → Cleans (cleaned kinds (archive_of_files kinds fs)) room h → Wrote h (all_of (cleaned kinds (archive_of_files kinds fs)))
