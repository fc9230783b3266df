-- Document 01, "Refused for the state": a run's calls, over what it holds. These are the steps that the contracts of a run's functions cite;
-- proofs/Holding has that they are the steps over sources (specs/Step).
use Rattle.std.specs.Prelude.{Bool, not, List, [], ◌∷◌, map, ℕ, ltb, length, get_or}
use Rattle.std.proofs.Math.Option.{Option, none, some}
use Rattle.lists.specs.Lists.{flat, is_empty, up_from}
use Rattle.columns.specs.Limits.{max_numbers}
use Rattle.columns.specs.Refusal
use Rattle.columns.specs.Refusal.{Verdict, refuse, first_of}
use Rattle.columns.specs.declared.refusal.Refusal.{Refusal}
use Rattle.columns.specs.declared.refusal.Refusal.TheVariants.{OutOfTurn, GroupOrder, OverNumbers, NoSurvivor}
use Rattle.archive.specs.Parse.{parse}
use Rattle.cleaning.specs.Archive.{Archive}
use Rattle.cleaning.specs.Cleaning.{mapped, reparented}
use Rattle.cleaning.specs.Memo.{tables}
use Rattle.cleaning.specs.Resolving.{entries, groups_survive}
use Rattle.cleaning.specs.Writing.{written}
use Rattle.cleaning.specs.Listed.{listed}
use Rattle.cleaning.specs.Step.{Call, takes, resolves, writes, maps, counts, lists, Answer, refused, done, told, counted, write_into, list_into}
use Rattle.cleaning.specs.Sheet.{Sheet, summary_of}
use Rattle.cleaning.specs.Held.{Held, nothing, archive_held, hold_more}
use Rattle.cleaning.specs.Survivors.{survivor_sheet}

-- a run by phase: taking sources; resolved, with the sheet of its survivors; and `spoiled`, which is no run that calls make
pub data RunState : Type 0 where
  taking : Held → RunState
  resolved : Held → Sheet → RunState
  spoiled : RunState

-- a fresh run has taken nothing
abbrev pub fresh_run : RunState
fresh_run = taking nothing

pub record RunOutcome : Type 0 where
  pub state : RunState
  pub answer : Answer

abbrev pub run_outcome : RunState → Answer → RunOutcome
run_outcome s a = record { state = s; answer = a }

-- ── resolving ────────────────────────────────────────────────────────────────────────────────

-- every event's new lists, slot by slot, out of tables kind by kind
unfoldable pub slotted : ℕ → List (List (List ℕ)) → List (List ℕ)
slotted n ts = flat (λ i. map (λ t. get_or t i []) ts) (up_from 0 n)

-- 24, 43, 27
unfoldable pub held_rules : Held → Archive → List (List (List ℕ)) → Option Refusal
held_rules h A ts =
    first_of (refuse GroupOrder (is_empty h.sheet.groups)
    ∷ refuse OverNumbers (ltb max_numbers (entries ts))
    ∷ refuse NoSurvivor (not (groups_survive A))
    ∷ [])

abbrev pub resolve_into : Held → Sheet → Option Refusal → RunOutcome
resolve_into h s none = run_outcome (resolved h s) done
resolve_into h s (some r) = run_outcome (taking h) (refused r)

unfoldable pub resolve_held : (K : ℕ) → Held → RunOutcome
resolve_held K h =
    let A = archive_held K h in
    let ts = tables K A in
    resolve_into h (survivor_sheet K h (slotted (length A.events) ts)) (held_rules h A ts)

-- ── every call ───────────────────────────────────────────────────────────────────────────────

abbrev pub take_into : Held → Verdict Held → RunOutcome
take_into h (Refusal.refused r) = run_outcome (taking h) (refused r)
take_into h (Refusal.accepted more) = run_outcome (taking more) done

unfoldable pub run_step : (K : ℕ) → RunState → Call → RunOutcome
run_step K (taking h) (takes b) = take_into h (hold_more K h (parse K b))
run_step K (taking h) resolves = resolve_held K h
run_step K (taking h) (writes room) = run_outcome (taking h) (refused OutOfTurn)
run_step K (taking h) (maps p) = run_outcome (taking h) (refused OutOfTurn)
run_step K (taking h) counts = run_outcome (taking h) (refused OutOfTurn)
run_step K (taking h) (lists room) = run_outcome (taking h) (refused OutOfTurn)
run_step K (resolved h s) (takes b) = run_outcome (resolved h s) (refused OutOfTurn)
run_step K (resolved h s) resolves = run_outcome (resolved h s) (refused OutOfTurn)
run_step K (resolved h s) (writes room) = run_outcome (resolved h s) (write_into room (written K (summary_of K s)))
run_step K (resolved h s) (maps p) = run_outcome (resolved h s) (told (mapped (archive_held K h) p))
run_step K (resolved h s) counts = run_outcome (resolved h s) (counted (reparented (archive_held K h)))
run_step K (resolved h s) (lists room) = run_outcome (resolved h s) (list_into (listed K room (archive_held K h) (summary_of K s)))
run_step K spoiled c = run_outcome spoiled (refused OutOfTurn)
