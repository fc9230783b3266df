-- What the exported functions promise are links of a trace, and so the claim holds of their calls.
use Rattle.std.specs.Prelude.{Err, None, Ok, Result, Some}
use mathlib.Core.Path.{◌≡◌, refl, ap, ap₂, sym, subst, ◌∙◌}
use mathlib.Core.Bool.{Bool, true, false, cond}
use mathlib.Core.List.{List, [], ◌∷◌}
use mathlib.Core.Option.{Option, none, some}
use Prim.Native.Nat.{ℕ, ◌<◌}
use native.Mathlib.Omega.{arith}
use lib.Dec.{leb}
use lib.ListN.{length, take, drop}
use Rattle.columns.specs.Limits.{kinds}
use Rattle.columns.specs.Refusal as verdict
use Rattle.columns.specs.Refusal.{Verdict, number_of}
use Rattle.columns.specs.declared.refusal.Refusal.{Refusal}
use Rattle.columns.specs.declared.refusal.Refusal.TheVariants.{SubjectLength, EdgeEntries, NumberRange, ParentNotEarlier, ParentTwice, UnresolvedChild, UnresolvedKind}
use Rattle.columns.specs.declared.refusal.Refusal.TheVariants.{DepthOrder, LabelCount, SeqNotRising, InboundChild, InboundParent, InboundTwice, GranuleRows, DeltaRange}
use Rattle.columns.specs.declared.refusal.Refusal.TheVariants.{RootOutside, OffsetsForm, DeltaCount, TargetSide, LabelColumns, LabelRange, CoverForm, RecordBroken}
use Rattle.columns.specs.declared.refusal.Refusal.TheVariants.{GroupOrder, SourceOrder, CoverInSome, NoSurvivor, OutOfTurn, SliceShort, OverRecords, OverNumbers}
use Rattle.archive.specs.Parse.{parse}
use Rattle.cleaning.specs.Step.{Call, takes, resolves, writes, maps, counts, Bytes, all_of, Answer, refused, done, wrote, told, counted, printed, write_into}
use Rattle.cleaning.specs.Sheet.{Sheet, summary_of}
use Rattle.cleaning.specs.Writing.{written}
use Rattle.cleaning.specs.Held.{Held, archive_held, hold_more}
use Rattle.cleaning.specs.Cleaning
use Rattle.cleaning.specs.Memo.{tables}
use Rattle.cleaning.specs.Runs as runs
use Rattle.cleaning.specs.Runs.{RunState, taking, spoiled, run_outcome, fresh_run, held_rules, resolve_into, resolve_held, take_into, run_step}
use Rattle.cleaning.specs.History.{Did, did}
use Rattle.run.specs.View.{view}
use Rattle.run.specs.Promises.{replied, Kept, written_from}
use Rattle.run.specs.declared.Run.{Run}
use Rattle.run_clean.specs.Cleans.{after, resolved_from, cleaned_from}
use Rattle.run_claim.specs.Traces as traces
use Rattle.run_claim.specs.Traces.{Link, Trace}
use Rattle.run_claim.specs.Cleanings as cleanings
use Rattle.run_claim.specs.Cleanings.{CleanedTo}
use Rattle.run_claim.proofs.Traces.{claim-of-runs}
use Rattle.run_claim.proofs.Cleanings.{cleaned-to, two-cleanings}
use Rattle.ffi.specs.Numbers.{refusal_of}
use Rattle.ffi.specs.declared.answer.Answer as numbers
use Rattle.ffi_run.specs.Steps.{StepsBy}
use Rattle.ffi_run.specs.declared.Step.{Step}
use Rattle.ffi_clean.specs.Whole.{bytes_of, GivesBy}
use Rattle.ffi_claim.specs.Exported.{Exported, took, resolved, mapped, ExportedTrace, ended, linked, ClaimOfExported, WriteSeen, ExportedTo, gave, ClaimOfExportedCleanings}
use Rattle.ffi_claim.specs.Exported as exported

-- no refusal has the number 0
some_number : (x : Refusal) → 0 < number_of x
some_number SubjectLength = omega arith
some_number EdgeEntries = omega arith
some_number NumberRange = omega arith
some_number ParentNotEarlier = omega arith
some_number ParentTwice = omega arith
some_number UnresolvedChild = omega arith
some_number UnresolvedKind = omega arith
some_number DepthOrder = omega arith
some_number LabelCount = omega arith
some_number SeqNotRising = omega arith
some_number InboundChild = omega arith
some_number InboundParent = omega arith
some_number InboundTwice = omega arith
some_number GranuleRows = omega arith
some_number DeltaRange = omega arith
some_number RootOutside = omega arith
some_number OffsetsForm = omega arith
some_number DeltaCount = omega arith
some_number TargetSide = omega arith
some_number LabelColumns = omega arith
some_number LabelRange = omega arith
some_number CoverForm = omega arith
some_number RecordBroken = omega arith
some_number GroupOrder = omega arith
some_number SourceOrder = omega arith
some_number CoverInSome = omega arith
some_number NoSurvivor = omega arith
some_number OutOfTurn = omega arith
some_number SliceShort = omega arith
some_number OverRecords = omega arith
some_number OverNumbers = omega arith

-- ── what a call may answer ───────────────────────────────────────────────────────────────────

-- the reply of a taking or a resolving, the answer of a question
abbrev reply_of : Answer → Result (Unit {0}) Refusal
reply_of (refused x) = Err x
reply_of done = Ok tt
reply_of (wrote w) = Ok tt
reply_of (told n) = Ok tt
reply_of (counted n) = Ok tt
reply_of (printed t) = Ok tt

take-reply : (s : RunState) (b : List ℕ) → replied (reply_of (run_step kinds s (takes b)).answer) ≡ (run_step kinds s (takes b)).answer
unfolding run_step
take-reply (taking h) b = go (hold_more kinds h (parse kinds b))
  where
    go : (v : Verdict Held) → replied (reply_of (take_into h v).answer) ≡ (take_into h v).answer
    go (verdict.refused x) = refl
    go (verdict.accepted m) = refl
take-reply (runs.resolved h s) b = refl
take-reply spoiled b = refl

resolve-reply : (s : RunState) → replied (reply_of (run_step kinds s resolves).answer) ≡ (run_step kinds s resolves).answer
unfolding run_step resolve_held
resolve-reply (taking h) = go _ (held_rules h (archive_held kinds h) (tables kinds (archive_held kinds h)))
  where
    go : (s : Sheet) (r : Option Refusal) → replied (reply_of (resolve_into h s r).answer) ≡ (resolve_into h s r).answer
    go s none = refl
    go s (some x) = refl
resolve-reply (runs.resolved h s) = refl
resolve-reply spoiled = refl

-- bytes, or a refusal
data Gave : Answer → Type 0 where
  no : (x : Refusal) → Gave (refused x)
  yes : (w : Bytes) → Gave (wrote w)

write-gives : (s : RunState) (room : ℕ) → Gave (written_from s room)
unfolding written_from run_step
write-gives (taking h) room = no OutOfTurn
write-gives (runs.resolved h s) room = go (written kinds (summary_of kinds s))
  where
    go : (v : Verdict (List ℕ)) → Gave (write_into room v)
    go (verdict.refused x) = no x
    go (verdict.accepted w) = fits (leb (length w) room)
      where
        fits : (b : Bool) → Gave (cond b (wrote (all_of w)) (refused SliceShort))
        fits true = yes (all_of w)
        fits false = no SliceShort
write-gives spoiled room = no OutOfTurn

after-gives : (a c : Answer) → Gave c → Gave (after a c)
after-gives (refused x) c g = no x
after-gives done c g = g
after-gives (wrote w) c g = g
after-gives (told n) c g = g
after-gives (counted n) c g = g
after-gives (printed t) c g = g

clean-gives : (b : List ℕ) (room : ℕ) → Gave (cleaned_from b room)
unfolding cleaned_from resolved_from
clean-gives b room =
    let o = run_step kinds fresh_run (takes b) in
    let p = run_step kinds o.state resolves in
    after-gives o.answer (resolved_from o.state room) (after-gives p.answer (written_from p.state room) (write-gives p.state room))

-- ── bytes by numbers ─────────────────────────────────────────────────────────────────────────

-- a call that answers 0 has written: what it answers, and the bytes up to it
seen : (answer : ℕ → Answer) (was is : List ℕ) (r : numbers.Answer) → Gave (answer (length was)) → GivesBy answer was is r → r.refusal ≡ 0
    → answer (length was) ≡ wrote (record { length = r.length; bytes = take r.length is })
unfolding refusal_of bytes_of
seen answer was is r g m e = go (answer (length was)) g m.refused m.counted m.bytes
  where
    go : (a : Answer) → Gave a → r.refusal ≡ refusal_of a → r.length ≡ (bytes_of a).length → take r.length is ≡ (bytes_of a).bytes
        → a ≡ wrote (record { length = r.length; bytes = take r.length is })
    go a (no x) f n l = let z : 0 ≡ number_of x = sym e ∙ f in absurd (omega (arith, some_number x))
    go a (yes w) f n l = ap₂ (λ k b. wrote (record { length = k; bytes = b })) (sym n) (sym l)

pub write-seen : WriteSeen
write-seen s was is r m e = seen (written_from s) was is r (write-gives s (length was)) m e

-- ── questions keep the run ───────────────────────────────────────────────────────────────────

module _ (run : Run) where
  map_of : (old : ℕ) (s : RunState) → view run ≡ s → run_step kinds (view run) (maps old) ≡ run_outcome (view run) (run_step kinds s (maps old)).answer
  unfolding run_step
  map_of old s e = subst (λ x. run_step kinds x (maps old) ≡ run_outcome x (run_step kinds s (maps old)).answer) (sym e) (keeps s)
    where
      keeps : (s : RunState) → run_step kinds s (maps old) ≡ run_outcome s (run_step kinds s (maps old)).answer
      keeps (taking h) = refl
      keeps (runs.resolved h s) = refl
      keeps spoiled = refl

  count_of : (s : RunState) → view run ≡ s → run_step kinds (view run) counts ≡ run_outcome (view run) (run_step kinds s counts).answer
  unfolding run_step
  count_of s e = subst (λ x. run_step kinds x counts ≡ run_outcome x (run_step kinds s counts).answer) (sym e) (keeps s)
    where
      keeps : (s : RunState) → run_step kinds s counts ≡ run_outcome s (run_step kinds s counts).answer
      keeps (taking h) = refl
      keeps (runs.resolved h s) = refl
      keeps spoiled = refl

-- ── the links ────────────────────────────────────────────────────────────────────────────────

-- a refused step gives back the run
kept_run : {c : Call} {run : Run} (r : Step) → StepsBy c run r → (a : Answer) → r.refusal ≡ refusal_of a → Kept (reply_of a) run r.run
unfolding refusal_of
kept_run r m (refused x) e = m.kept (λ z. omega (arith, some_number x, sym z ∙ e))
kept_run r m done e = tt
kept_run r m (wrote w) e = tt
kept_run r m (told n) e = tt
kept_run r m (counted n) e = tt
kept_run r m (printed t) e = tt

take_link : {run : Run} (bytes : List ℕ) (r : Step) → StepsBy (takes bytes) run r → Link run r.run (did (takes bytes) (run_step kinds (view run) (takes bytes)).answer)
take_link {run} bytes r m =
    let a = (run_step kinds (view run) (takes bytes)).answer in
    let e = take-reply (view run) bytes in
    subst (λ x. Link run r.run (did (takes bytes) x)) e
    (traces.took bytes (record { run = r.run; reply = reply_of a }) (record { state = m.state; answer = e; kept = kept_run r m a m.answer }))

resolve-link : {run : Run} (r : Step) → StepsBy resolves run r → Link run r.run (did resolves (run_step kinds (view run) resolves).answer)
resolve-link {run} r m =
    let a = (run_step kinds (view run) resolves).answer in
    let e = resolve-reply (view run) in
    subst (λ x. Link run r.run (did resolves x)) e
    (traces.resolved (record { run = r.run; reply = reply_of a }) (record { state = m.state; answer = e; kept = kept_run r m a m.answer }))

write-link : {run : Run} (was is : List ℕ) (r : numbers.Answer) → GivesBy (written_from (view run)) was is r
    → Link run run (did (writes (length was)) (written_from (view run) (length was)))
unfolding bytes_of
write-link {run} was is r m = go (written_from (view run) (length was)) (write-gives (view run) (length was)) refl
  where
    go : (a : Answer) → Gave a → written_from (view run) (length was) ≡ a → Link run run (did (writes (length was)) a)
    go a (no x) e =
        let n : r.length ≡ 0 = m.counted ∙ ap (λ b. (bytes_of b).length) e in
        traces.wrote was is (Err x) (record { answers = sym e; rest = subst (λ k. drop k is ≡ drop k was) n m.rest; within = omega arith })
    go a (yes w) e =
        let n : r.length ≡ w.length = m.counted ∙ ap (λ b. (bytes_of b).length) e in
        let l : take r.length is ≡ w.bytes = m.bytes ∙ ap (λ b. (bytes_of b).bytes) e in
        let same : ◌≡◌ {A = Answer} (wrote (record { length = r.length; bytes = take r.length is })) (wrote w) = ap₂ (λ k b. wrote (record { length = k; bytes = b })) n l in
        subst (λ x. Link run run (did (writes (length was)) x)) same
        (traces.wrote was is (Ok r.length) (record { answers = same ∙ sym e; rest = m.rest; within = m.within }))

-- a question of each state
map_link : {run : Run} (old : ℕ) → Link run run (did (maps old) (run_step kinds (view run) (maps old)).answer)
unfolding run_step
map_link {run} old = go (view run) refl
  where
    told-link : (o : Option ℕ) → run_step kinds (view run) (maps old) ≡ run_outcome (view run) (told o) → Link run run (did (maps old) (told o))
    told-link none e = traces.mapped old (Ok None) e
    told-link (some n) e = traces.mapped old (Ok (Some n)) e

    go : (s : RunState) → view run ≡ s → Link run run (did (maps old) (run_step kinds s (maps old)).answer)
    go (taking h) e = traces.mapped old (Err OutOfTurn) (map_of run old (taking h) e)
    go (runs.resolved h s) e = told-link (Cleaning.mapped (archive_held kinds h) old) (map_of run old (runs.resolved h s) e)
    go spoiled e = traces.mapped old (Err OutOfTurn) (map_of run old spoiled e)

count-link : {run : Run} → Link run run (did counts (run_step kinds (view run) counts).answer)
unfolding run_step
count-link {run} = go (view run) refl
  where
    go : (s : RunState) → view run ≡ s → Link run run (did counts (run_step kinds s counts).answer)
    go (taking h) e = traces.counted (Err OutOfTurn) (count_of run (taking h) e)
    go (runs.resolved h s) e = traces.counted (Ok (Cleaning.reparented (archive_held kinds h))) (count_of run (runs.resolved h s) e)
    go spoiled e = traces.counted (Err OutOfTurn) (count_of run spoiled e)

-- ── the claim ────────────────────────────────────────────────────────────────────────────────

link-of : {before after : Run} {d : Did} → Exported before after d → Link before after d
link-of (took bytes r m) = take_link bytes r m
link-of (resolved r m) = resolve-link r m
link-of (exported.wrote was is r m) = write-link was is r m
link-of (mapped old r m) = map_link old
link-of (exported.counted r m) = count-link

trace-of : {run : Run} {h : List Did} → ExportedTrace run h → Trace run h
trace-of ended = traces.ended
trace-of (linked after l t) = traces.linked after (link-of l) (trace-of t)

pub claim-of-exported : ClaimOfExported
claim-of-exported r s er es h g t u = claim-of-runs r s er es h g (trace-of t) (trace-of u)

-- a cleaning in one call is what the contract of the proved function says
exported-to : (b : List ℕ) (w : Bytes) → ExportedTo b w → CleanedTo b w
exported-to b w (gave was is r m e) =
    cleanings.gave was is r.length
    (record { answers = sym (seen (cleaned_from b) was is r (clean-gives b (length was)) m e); rest = m.rest; within = m.within })

pub claim-of-exported-cleanings : ClaimOfExportedCleanings
claim-of-exported-cleanings = two-cleanings ExportedTo (λ b w m. cleaned-to b w (exported-to b w m))
