-- The one claim over two whole lists of calls, and the same over traces of contracts.
use mathlib.Core.Path.{◌≡◌, refl, ap, ap₂, sym, ◌∙◌, subst}
use mathlib.Core.Bool.{Bool, true, false, cond}
use mathlib.Core.List.{List, [], ◌∷◌, ◌++◌, map}
use mathlib.Core.Option.{Option, none, some}
use Prim.Native.Nat.{ℕ}
use lib.Dec.{leb}
use lib.ListN.{length}
use Rattle.columns.specs.Limits.{Served}
use Rattle.lists.specs.Lists.{flat, Each}
use Rattle.lists.proofs.Each.{each-imp, each-mem}
use Rattle.columns.specs.Refusal.{unless}
use Rattle.columns.specs.declared.refusal.Refusal.{Refusal}
use Rattle.columns.specs.declared.refusal.Refusal.TheVariants.{SliceShort}
use Rattle.cleaning.specs.Source.{Source}
use Rattle.cleaning.specs.Archive.{Taken, Archive, archive_of}
use Rattle.cleaning.specs.Summary.{Summary, tabled}
use Rattle.cleaning.specs.Writing.{write_rules, bytes_of, written}
use Rattle.cleaning.specs.Step.{Call, writes, Bytes, all_of, Answer, refused, wrote, State, resolved, fresh, write_into, step}
use Rattle.cleaning.specs.Held.{held_of}
use Rattle.cleaning.specs.Runs.{RunState, fresh_run, run_step}
use Rattle.cleaning.specs.History.{Did, did, history, took, bytes_written, archive_in, Wrote, cleaned}
use Rattle.cleaning.specs.Alike.{Alike}
use Rattle.cleaning.specs.Claim.{Cleans, Claimed, Claim}
use Rattle.cleaning.specs.Trace.{Trace, ended, called, ClaimOfTraces}
use Rattle.cleaning.proofs.Events.{valid-sources}
use Rattle.cleaning.proofs.Tabled.{tabled-summary}
use Rattle.cleaning.proofs.SameSummary.{summary-alike}
use Rattle.cleaning.proofs.Invariant.{Inv, step_after}
use Rattle.cleaning.proofs.Writes.{archive_from, every-write}
use Rattle.cleaning.proofs.Holding.{hold, hold_outcome, run_step_lem}

-- ── a write gives the cleaned archive ────────────────────────────────────────────────────────

-- what an accepted write of a summary wrote is its bytes
bytes-of : (K : ℕ) (served : Served K) (room : ℕ) (S : Summary) → Each (λ w. w ≡ all_of (bytes_of K S)) (bytes_written (did (writes room) (write_into room (written K S))))
unfolding written unless
bytes-of K served room S = go (write_rules K S)
  where
    fits : (b : Bool) → Each (λ w. w ≡ all_of (bytes_of K S)) (bytes_written (did (writes room) (cond b (wrote (all_of (bytes_of K S))) (refused SliceShort))))
    fits true = (refl, tt)
    fits false = tt

    go : (r : Option Refusal) → Each (λ w. w ≡ all_of (bytes_of K S)) (bytes_written (did (writes room) (write_into room (unless r (bytes_of K S)))))
    go none = fits (leb (length (bytes_of K S)) room)
    go (some r) = tt

resolved-cleaned : (K : ℕ) (served : Served K) (t : Taken) (ts : List (List (List ℕ))) (ss : List Source) → Inv K (resolved t ts) ss
    → bytes_of K (tabled (archive_of K t) ts) ≡ cleaned K (archive_from K ss)
unfolding Inv cleaned
resolved-cleaned K served t ts ss i = rw (i.2, i.0) (ap (bytes_of K) (tabled-summary K served (archive_from K ss) (valid-sources K served ss i.1)))

-- ── every write of a list ────────────────────────────────────────────────────────────────────

abbrev AnyCall : Call → Type 0
AnyCall c = Unit {0}

abbrev Cleaned : (K : ℕ) → List Source → Bytes → Type 0
Cleaned K ss w = w ≡ all_of (cleaned K (archive_from K ss))

each-call : (cs : List Call) → Each AnyCall cs
each-call [] = tt
each-call (c ∷ cs) = (tt, each-call cs)

writes-cleaned : (K : ℕ) (served : Served K) (t : Taken) (ts : List (List (List ℕ))) (ss : List Source) (room : ℕ) → Inv K (resolved t ts) ss
    → Each (Cleaned K ss) (bytes_written (did (writes room) (write_into room (written K (tabled (archive_of K t) ts)))))
writes-cleaned K served t ts ss room i =
    let S : Summary = tabled (archive_of K t) ts in
    each-imp (λ w. w ≡ all_of (bytes_of K S)) (Cleaned K ss) (bytes_written (did (writes room) (write_into room (written K S))))
    (λ w d. d ∙ ap all_of (resolved-cleaned K served t ts ss i)) (bytes-of K served room S)

pub write-cleaned : (K : ℕ) (served : Served K) (cs : List Call) → Cleans K (history K fresh cs)
unfolding Wrote archive_in Inv
write-cleaned K served cs w m =
    each-mem (λ w. Cleaned K (flat (took K) (history K fresh cs)) w) (flat bytes_written (history K fresh cs)) w
    (every-write K served (Cleaned K) (Inv K) AnyCall (λ s c ss e i. step_after K served s c ss i) (writes-cleaned K served) fresh cs [] (each-call cs) (refl, tt)) m

-- ── the claim ────────────────────────────────────────────────────────────────────────────────

-- archives that are alike are cleaned to the same bytes
pub cleaned-alike : (K : ℕ) (served : Served K) (A B : Archive) → Alike K A B → cleaned K A ≡ cleaned K B
unfolding cleaned
cleaned-alike K served A B l = ap (bytes_of K) (summary-alike K served A B l)

pub claim : (K : ℕ) (served : Served K) → Claim K
claim K served cs ds = record {
  left = write-cleaned K served cs;
  right = write-cleaned K served ds;
  same = λ l w v m n.
      let e : w ≡ v = write-cleaned K served cs w m ∙ ap all_of (cleaned-alike K served (archive_in K (history K fresh cs)) (archive_in K (history K fresh ds)) l)
      ∙ sym (write-cleaned K served ds v n) in
      (ap (λ x. x.length) e, ap (λ x. x.bytes) e);
}

-- ── over traces ──────────────────────────────────────────────────────────────────────────────

abbrev pub call_of : Did → Call
call_of (did c a) = c

module _ (K : ℕ) (served : Served K) (Run Reply : Type 0) (view : Run → RunState) (answered : Reply → Answer) where
  -- a trace from what a state holds is the history of its calls from that state
  trace-history : {r : Run} {h : List Did} → Trace K Run Reply view answered r h → (s : State) (ss : List Source) → Inv K s ss → view r ≡ hold K s
      → h ≡ history K s (map call_of h)
  unfolding history
  trace-history ended s ss i e = refl
  trace-history (called {before} after c reply {h} meets rest) s ss i e =
      let o : run_step K (view before) c ≡ hold_outcome K (step K s c) = ap (λ x. run_step K x c) e ∙ run_step_lem K served s c ss i in
      ap₂ (λ a hs. did c a ∷ hs) (meets.answer ∙ ap (λ x. x.answer) o)
      (trace-history rest (step K s c).state (ss ++ took K (did c (step K s c).answer)) (step_after K served s c ss i) (meets.state ∙ ap (λ x. x.state) o))

  -- from a fresh run
  pub fresh-history : {r : Run} {h : List Did} → view r ≡ fresh_run → Trace K Run Reply view answered r h → h ≡ history K fresh (map call_of h)
  unfolding Inv hold held_of
  fresh-history e t = trace-history t fresh [] (refl, tt) e

  pub claim-of-traces : ClaimOfTraces K Run Reply view answered
  claim-of-traces r s er es h g t u =
      subst (λ x. Claimed K x g) (sym (fresh-history er t)) (subst (λ x. Claimed K (history K fresh (map call_of h)) x) (sym (fresh-history es u)) (claim K served (map call_of h) (map call_of g)))

-- not empty: where the runs are what they hold, every list of calls has its trace from a fresh run
own-from : (K : ℕ) (served : Served K) (s : State) (cs : List Call) (ss : List Source) → Inv K s ss → Trace K RunState Answer (λ x. x) (λ a. a) (hold K s) (history K s cs)
unfolding history
own-from K served s [] ss i = ended
own-from K served s (c ∷ cs) ss i =
    let e = run_step_lem K served s c ss i in
    called (hold K (step K s c).state) c (step K s c).answer (record { state = ap (λ o. o.state) (sym e); answer = ap (λ o. o.answer) (sym e) })
    (own-from K served (step K s c).state cs (ss ++ took K (did c (step K s c).answer)) (step_after K served s c ss i))

pub own-trace : (K : ℕ) (served : Served K) (cs : List Call) → Trace K RunState Answer (λ x. x) (λ a. a) fresh_run (history K fresh cs)
unfolding Inv hold held_of
own-trace K served cs = own-from K served fresh cs [] (refl, tt)
