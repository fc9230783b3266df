-- Demand 3 over a run's functions: a trace of their contracts is one of the steps, and so the claim holds of it.
use mathlib.Core.Path.{◌≡◌, refl, sym, ap, subst, ◌∙◌}
use mathlib.Core.List.{List, ◌∷◌, map}
use Prim.Native.Nat.{ℕ}
use Rattle.columns.specs.Limits.{kinds}
use Rattle.columns.proofs.Served.{kinds-served}
use Rattle.cleaning.specs.Step as step
use Rattle.cleaning.specs.Step.{Call, writes, lists, all_of, Answer, fresh}
use Rattle.cleaning.specs.Runs.{RunState, taking, spoiled, run_step}
use Rattle.cleaning.specs.Runs as runs
use Rattle.cleaning.specs.History.{archive_of_files, Did, history, archive_in, Wrote, cleaned}
use Rattle.cleaning.specs.Trace as steps
use Rattle.cleaning.specs.NewParents.{Renewed}
use Rattle.cleaning.proofs.Claim.{fresh-history, claim-of-traces}
use Rattle.cleaning.proofs.NewParents.{parents-written}
use Rattle.cleaning.proofs.Written.{accepted}
use Rattle.cleaning.proofs.SameBytes.{idempotent}
use Rattle.run.specs.View.{view}
use Rattle.run.specs.Promises.{replied, numbered, counted_as, written_from, listed_from}
use Rattle.run_claim.specs.Traces.{Link, took, resolved, wrote, mapped, counted, listed, Trace, ended, linked, Fresh, call_of, ClaimOfRuns, ParentsWrittenByRuns, AcceptedByRuns, SameAgain}
use Rattle.run.specs.declared.Run.{Run}
use Rattle.run_write.specs.Answers.{answer_of}
use lib.ListN.{length}

-- the trace of steps, whose answers are those of the contracts
abbrev StepTrace : Run → List Did → Type 0
StepTrace = steps.Trace kinds Run Answer view (λ a. a)

-- a write and a listing leave a run as it is
write_keeps : (s : RunState) (room : ℕ) → s ≡ (run_step kinds s (writes room)).state
unfolding run_step
write_keeps (taking h) room = refl
write_keeps (runs.resolved h s) room = refl
write_keeps spoiled room = refl

list-keeps : (s : RunState) (room : ℕ) → s ≡ (run_step kinds s (lists room)).state
unfolding run_step
list-keeps (taking h) room = refl
list-keeps (runs.resolved h s) room = refl
list-keeps spoiled room = refl

-- one call more in front
in-front : {before after : Run} {d : Did} {h : List Did} → Link before after d → StepTrace after h → StepTrace before (d ∷ h)
unfolding written_from listed_from
in-front (took bytes r m) t = steps.called r.run _ (replied r.reply) (record { state = m.state; answer = m.answer }) t
in-front (resolved r m) t = steps.called r.run _ (replied r.reply) (record { state = m.state; answer = m.answer }) t
in-front {before} (wrote was is r m) t =
    steps.called before _ (answer_of step.wrote r is) (record { state = write_keeps (view before) (length was); answer = m.answers }) t
in-front {before} (mapped old r m) t =
    steps.called before _ (numbered r) (record { state = sym (ap (λ o. o.state) m); answer = sym (ap (λ o. o.answer) m) }) t
in-front {before} (counted r m) t =
    steps.called before _ (counted_as r) (record { state = sym (ap (λ o. o.state) m); answer = sym (ap (λ o. o.answer) m) }) t
in-front {before} (listed was is r m) t =
    steps.called before _ (answer_of step.printed r is) (record { state = list-keeps (view before) (length was); answer = m.answers }) t

pub of_steps : {run : Run} {h : List Did} → Trace run h → StepTrace run h
of_steps ended = steps.ended
of_steps (linked after l t) = in-front l (of_steps t)

pub claim-of-runs : ClaimOfRuns
claim-of-runs r s er es h g t u = claim-of-traces kinds kinds-served Run Answer view (λ a. a) r s er es h g (of_steps t) (of_steps u)

-- a trace from a fresh run is the history of its calls
as-history : (run : Run) → Fresh run → (h : List Did) → Trace run h → {cs : List Call} → map call_of h ≡ cs → h ≡ history kinds fresh cs
as-history run f h t e = fresh-history kinds kinds-served Run Answer view (λ a. a) f (of_steps t) ∙ ap (history kinds fresh) e

pub parents-written-by-runs : ParentsWrittenByRuns
parents-written-by-runs run f h t o w m =
    let e = as-history run f h t refl in
    subst (λ g. Renewed kinds (archive_in kinds g) w.bytes) (sym e) (parents-written kinds kinds-served (map call_of h) o w (subst (λ g. Wrote g w) e m))

-- ── the claim speaks of something ────────────────────────────────────────────────────────────

pub accepted-by-runs : AcceptedByRuns
accepted-by-runs fs c room l run f h t e = subst (λ g. Wrote g (all_of (cleaned kinds (archive_of_files kinds fs)))) (sym (as-history run f h t e)) (accepted kinds kinds-served fs c room l)

pub same-again : SameAgain
same-again fs c room l run f h t e = subst (λ g. Wrote g (all_of (cleaned kinds (archive_of_files kinds fs)))) (sym (as-history run f h t e)) (idempotent kinds kinds-served fs c room l)
