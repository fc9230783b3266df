-- A whole cleaning is the history of three calls, so that the claim holds of it; and it is the definition that computes.
use mathlib.Core.Path.{◌≡◌, refl, ap, sym, subst, ◌∙◌}
use mathlib.Core.Bool.{Bool, true, false, cond}
use mathlib.Core.List.{List, [], ◌∷◌, ◌++◌, map, append-nil, Memᴰ}
use Prim.Native.Nat.{ℕ, ◌≤◌, ◌<◌}
use native.Mathlib.Omega.{arith}
use lib.Dec.{leb}
use lib.ListN.{length}
use borrow.Author.Tests.{le-leb}
use Rattle.columns.specs.Limits.{kinds}
use Rattle.columns.proofs.Served.{kinds-served}
use Rattle.columns.specs.Refusal as verdict
use Rattle.columns.specs.Refusal.{Verdict}
use Rattle.columns.specs.declared.refusal.Refusal.TheVariants.{SliceShort}
use Rattle.archive.specs.Parse.{parse}
use Rattle.cleaning.specs.Source.{Source, source_of}
use Rattle.cleaning.specs.Taking.{taken_from}
use Rattle.cleaning.specs.Archive.{Taken, archive_of}
use Rattle.cleaning.specs.Summary.{tabled}
use Rattle.cleaning.specs.Writing.{written}
use Rattle.cleaning.specs.Step.{Call, takes, resolves, writes, Bytes, all_of, Answer, refused, done, wrote, told, counted, printed, State, taking, resolved, spoiled}
use Rattle.cleaning.specs.Step.{fresh, Outcome, take_more, write_into, step}
use Rattle.cleaning.specs.History.{did, archive_of_bytes, history, files_in, took, bytes_written, archive_in, Wrote, cleaned}
use Rattle.cleaning.specs.Listing.{afterwards, writing, writing_from, cleaning, cleaned_bytes}
use Rattle.cleaning.specs.Held.{held_of}
use Rattle.cleaning.proofs.Invariant.{Inv, step_after}
use Rattle.cleaning.proofs.Holding.{hold, run_step_lem}
use Rattle.cleaning.proofs.Claim.{cleaned-alike, claim}
use Rattle.run.specs.Promises.{written_from}
use Rattle.run_clean.specs.Cleans.{after, resolved_from, cleaned_from}
use Rattle.run_claim.specs.Cleanings.{CleanedTo, gave, CleaningsClaimed, ClaimOfCleanings, CleaningComputes}

-- ── a cleaning over sources ──────────────────────────────────────────────────────────────────

-- the three calls
abbrev calls : List ℕ → ℕ → List Call
calls b room = takes b ∷ resolves ∷ writes room ∷ []

abbrev first : List ℕ → Outcome
first b = step kinds fresh (takes b)

abbrev second : List ℕ → Outcome
second b = step kinds (first b).state resolves

abbrev third : List ℕ → ℕ → Outcome
third b room = step kinds (second b).state (writes room)

pub over-steps : (b : List ℕ) (room : ℕ) → cleaned_from b room ≡ after (first b).answer (after (second b).answer (third b room).answer)
unfolding cleaned_from resolved_from written_from hold held_of Inv
over-steps b room =
    let i = step_after kinds kinds-served fresh (takes b) [] (refl, tt) in
    let k = step_after kinds kinds-served (first b).state resolves _ i in
    ap (λ o. after o.answer (resolved_from o.state room)) (run_step_lem kinds kinds-served fresh (takes b) [] (refl, tt))
    ∙ ap (after (first b).answer)
    (ap (λ o. after o.answer (written_from o.state room)) (run_step_lem kinds kinds-served (first b).state resolves _ i)
    ∙ ap (λ o. after (second b).answer o.answer) (run_step_lem kinds kinds-served (second b).state (writes room) _ k))

-- ── an accepted cleaning ─────────────────────────────────────────────────────────────────────

-- what follows an answer that is no refusal
after-wrote : (a c : Answer) (w : Bytes) → after a c ≡ wrote w → c ≡ wrote w
after-wrote (refused x) c w e = let z : ◌≡◌ {A = ℕ} 0 1 = cc in absurd (omega arith)
after-wrote done c w e = e
after-wrote (wrote v) c w e = e
after-wrote (told n) c w e = e
after-wrote (counted n) c w e = e
after-wrote (printed t) c w e = e

-- the sources of a taking that something follows
took-files : (b : List ℕ) (t : Taken) (v : Verdict (List Source)) (c : Answer) (w : Bytes) → after (take_more t v).answer c ≡ wrote w
    → took kinds (did (takes b) (take_more t v).answer) ≡ map (source_of kinds) (files_in (parse kinds b))
took-files b t (verdict.refused x) c w e = let z : ◌≡◌ {A = ℕ} 0 1 = cc in absurd (omega arith)
took-files b t (verdict.accepted ss) c w e = refl

mem-after : {A : Type 0} (x : A) (xs ys : List A) → Memᴰ x ys → Memᴰ x (xs ++ ys)
mem-after x [] ys m = m
mem-after x (y ∷ xs) ys m = Memᴰ.tail (mem-after x xs ys m)

module _ (b : List ℕ) (room : ℕ) (w : Bytes) (e : cleaned_from b room ≡ wrote w) where
  by-steps : after (first b).answer (after (second b).answer (third b room).answer) ≡ wrote w
  by-steps = sym (over-steps b room) ∙ e

  third-wrote : (third b room).answer ≡ wrote w
  third-wrote = after-wrote (second b).answer _ w (after-wrote (first b).answer _ w by-steps)

  -- it is the write of the three calls
  is-write : Wrote (history kinds fresh (calls b room)) w
  unfolding Wrote history
  is-write =
      mem-after w (bytes_written (did (takes b) (first b).answer)) _
      (mem-after w (bytes_written (did resolves (second b).answer)) _
      (rw third-wrote (Memᴰ.head refl)))

  -- of the archive that the bytes hold
  is-archive : archive_in kinds (history kinds fresh (calls b room)) ≡ archive_of_bytes kinds b
  unfolding archive_in history step
  is-archive =
      ap (λ ss. archive_of kinds (record { sources = ss }))
      (append-nil (took kinds (did (takes b) (first b).answer)) ∙ took-files b (record { sources = [] }) (taken_from kinds [] (parse kinds b)) _ w by-steps)

  is-cleaned : w ≡ all_of (cleaned kinds (archive_of_bytes kinds b))
  is-cleaned = (claim kinds kinds-served (calls b room) (calls b room)).left w is-write ∙ ap (λ A. all_of (cleaned kinds A)) is-archive

-- the same, literally by the contract
pub cleaned-to : (b : List ℕ) (w : Bytes) → CleanedTo b w → w ≡ all_of (cleaned kinds (archive_of_bytes kinds b))
cleaned-to b w (gave was is n g) = is-cleaned b (length was) w (sym g.answers)

-- two cleanings, by what each has written
pub two-cleanings : (To : List ℕ → Bytes → Type 0) → ((b : List ℕ) (w : Bytes) → To b w → w ≡ all_of (cleaned kinds (archive_of_bytes kinds b)))
    → (a b : List ℕ) → CleaningsClaimed To a b
two-cleanings To each a b = record {
  left = each a;
  right = each b;
  same = λ l w v m n.
      let e : w ≡ v = each a w m ∙ ap all_of (cleaned-alike kinds kinds-served (archive_of_bytes kinds a) (archive_of_bytes kinds b) l) ∙ sym (each b v n) in
      (ap (λ x. x.length) e, ap (λ x. x.bytes) e);
}

pub claim-of-cleanings : ClaimOfCleanings
claim-of-cleanings = two-cleanings CleanedTo cleaned-to

-- ── the definition that computes ─────────────────────────────────────────────────────────────

-- nothing where a step is refused, otherwise the bytes
abbrev laid : State → List ℕ
laid s = writing_from kinds (λ r. []) (λ A fs w. w) s

abbrev following : Answer → List ℕ → List ℕ
following a more = afterwards (λ r. []) a more

after-follows : (a c : Answer) (w : Bytes) (more : List ℕ) → after a c ≡ wrote w → following a more ≡ more
after-follows (refused x) c w more e = let z : ◌≡◌ {A = ℕ} 0 1 = cc in absurd (omega arith)
after-follows done c w more e = refl
after-follows (wrote v) c w more e = refl
after-follows (told n) c w more e = refl
after-follows (counted n) c w more e = refl
after-follows (printed t) c w more e = refl

-- and the other way round
record Goes (a c : Answer) (more : List ℕ) : Type 0 where
  answers : after a c ≡ c
  follows : following a more ≡ more

goes_on : (a c : Answer) (more : List ℕ) → 0 < length (following a more) → Goes a c more
goes_on (refused x) c more h = absurd (omega arith)
goes_on done c more h = record { answers = refl; follows = refl }
goes_on (wrote v) c more h = record { answers = refl; follows = refl }
goes_on (told n) c more h = record { answers = refl; follows = refl }
goes_on (counted n) c more h = record { answers = refl; follows = refl }
goes_on (printed t) c more h = record { answers = refl; follows = refl }

module _ (room : ℕ) where
  into : (v : Verdict (List ℕ)) (w : Bytes) → write_into room v ≡ wrote w → w ≡ all_of (writing (λ r. []) (λ l. l) v)
  into (verdict.refused x) w e = let z : ◌≡◌ {A = ℕ} 0 1 = cc in absurd (omega arith)
  into (verdict.accepted l) w e = go (leb (length l) room) e
    where
      go : (k : Bool) → cond k (wrote (all_of l)) (refused SliceShort) ≡ wrote w → w ≡ all_of l
      go true e = cc
      go false e = let z : ◌≡◌ {A = ℕ} 0 1 = cc in absurd (omega arith)

  has_room : (v : Verdict (List ℕ)) → 0 < length (writing (λ r. []) (λ l. l) v) → length (writing (λ r. []) (λ l. l) v) ≤ room
      → write_into room v ≡ wrote (all_of (writing (λ r. []) (λ l. l) v))
  has_room (verdict.refused x) h k = absurd (omega arith)
  has_room (verdict.accepted l) h k = rw (le-leb (length l) room k)

  write-is : (s : State) (w : Bytes) → (step kinds s (writes room)).answer ≡ wrote w → w ≡ all_of (laid s)
  unfolding step
  write-is (taking t) w e = let z : ◌≡◌ {A = ℕ} 0 1 = cc in absurd (omega arith)
  write-is (resolved t ts) w e = into (written kinds (tabled (archive_of kinds t) ts)) w e
  write-is spoiled w e = let z : ◌≡◌ {A = ℕ} 0 1 = cc in absurd (omega arith)

  write-has : (s : State) → 0 < length (laid s) → length (laid s) ≤ room → (step kinds s (writes room)).answer ≡ wrote (all_of (laid s))
  unfolding step
  write-has (taking t) h k = absurd (omega arith)
  write-has (resolved t ts) h k = has_room (written kinds (tabled (archive_of kinds t) ts)) h k
  write-has spoiled h k = absurd (omega arith)

module _ (b : List ℕ) where
  all-steps : cleaned_bytes kinds b ≡ following (first b).answer (following (second b).answer (laid (second b).state))
  unfolding cleaned_bytes cleaning
  all-steps = refl

  computed : (w : Bytes) → CleanedTo b w → w ≡ all_of (cleaned_bytes kinds b)
  computed w (gave was is n g) =
      let e = sym (over-steps b (length was)) ∙ sym g.answers in
      let more = laid (second b).state in
      let f = after-wrote (first b).answer _ w e in
      write-is (length was) (second b).state w (after-wrote (second b).answer _ w f)
      ∙ ap all_of (sym (all-steps ∙ after-follows (first b).answer _ w _ e ∙ after-follows (second b).answer _ w more f))

  accepted : (room : ℕ) → 0 < length (cleaned_bytes kinds b) → length (cleaned_bytes kinds b) ≤ room → cleaned_from b room ≡ wrote (all_of (cleaned_bytes kinds b))
  accepted room h k =
      let more = laid (second b).state in
      let c = (third b room).answer in
      let p = goes_on (first b).answer (after (second b).answer c) (following (second b).answer more) (subst (λ l. 0 < length l) all-steps h) in
      let e = all-steps ∙ p.follows in
      let q = goes_on (second b).answer c more (subst (λ l. 0 < length l) e h) in
      let d = e ∙ q.follows in
      over-steps b room ∙ p.answers ∙ q.answers
      ∙ write-has room (second b).state (subst (λ l. 0 < length l) d h) (subst (λ l. length l ≤ room) d k) ∙ ap (λ l. wrote (all_of l)) (sym d)

pub cleaning-computes : CleaningComputes
cleaning-computes b = record { written = computed b; accepted = accepted b }
