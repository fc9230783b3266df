-- Every accepted write of a list of calls: what holds of the state that it is made in holds of the archive of the whole list.
use mathlib.Core.Path.{ap, sym, subst, ◌∙◌}
use mathlib.Core.List.{List, [], ◌∷◌, ◌++◌, map, append-nil, append_assoc}
use mathlib.Core.Option.{Option, none, some}
use Prim.Native.Nat.{ℕ}
use Rattle.columns.specs.Limits.{Served}
use Rattle.lists.specs.Lists.{flat, Each}
use Rattle.lists.proofs.Each.{each_append}
use Rattle.columns.specs.Refusal as verdict
use Rattle.columns.specs.Refusal.{Verdict, unless}
use Rattle.columns.specs.declared.refusal.Refusal.{Refusal}
use Rattle.archive.specs.File.{File}
use Rattle.archive.specs.Reader.{Parsed, broken, got}
use Rattle.archive.specs.Parse.{parse}
use Rattle.cleaning.specs.Source.{Source, source_of}
use Rattle.cleaning.specs.Taking.{take_rules, taken_from}
use Rattle.cleaning.specs.Archive.{Taken, Archive, archive_of}
use Rattle.cleaning.specs.Memo.{tables}
use Rattle.cleaning.specs.Summary.{tabled}
use Rattle.cleaning.specs.Resolving.{resolve_rules}
use Rattle.cleaning.specs.Writing.{written}
use Rattle.cleaning.specs.Listed.{listed}
use Rattle.cleaning.specs.Step.{Call, takes, resolves, writes, maps, counts, lists, Bytes, State, taking, resolved, spoiled, take_more, resolve_by, write_into, list_into, resolve, step}
use Rattle.cleaning.specs.History.{Did, did, history, took, bytes_written}
use Rattle.cleaning.proofs.Invariant.{no_more}

abbrev pub archive_from : (K : ℕ) → List Source → Archive
archive_from K ss = archive_of K (record { sources = ss })

-- ── no other call writes ─────────────────────────────────────────────────────────────────────

module _ (K : ℕ) (served : Served K) (P : Bytes → Type 0) where
  taking-writes-nothing : (t : Taken) (b : List ℕ) (x : Parsed (List File)) → Each P (bytes_written (did (takes b) (take_more t (taken_from K t.sources x)).answer))
  unfolding unless
  taking-writes-nothing t b broken = tt
  taking-writes-nothing t b (got fs q) = go (take_rules K t.sources fs)
    where
      go : (r : Option Refusal) → Each P (bytes_written (did (takes b) (take_more t (unless r (map (source_of K) fs))).answer))
      go none = tt
      go (some r) = tt

  resolving-writes-nothing : (t : Taken) (ts : List (List (List ℕ))) (r : Option Refusal) → Each P (bytes_written (did resolves (resolve_by t ts r).answer))
  resolving-writes-nothing t ts none = tt
  resolving-writes-nothing t ts (some r) = tt

  listing-writes-nothing : (room : ℕ) (v : Verdict (List ℕ)) → Each P (bytes_written (did (lists room) (list_into v)))
  listing-writes-nothing room (verdict.refused r) = tt
  listing-writes-nothing room (verdict.accepted t) = tt

-- ── every write of a list ────────────────────────────────────────────────────────────────────

-- Q of the sources taken so far and what is written; J of a state and the sources taken so far; C of a call
module _ (K : ℕ) (served : Served K) (Q : List Source → Bytes → Type 0) (J : State → List Source → Type 0) (C : Call → Type 0)
    (goes : (s : State) (c : Call) (ss : List Source) → C c → J s ss → J (step K s c).state (ss ++ took K (did c (step K s c).answer)))
    (writes-so : (t : Taken) (ts : List (List (List ℕ))) (ss : List Source) (room : ℕ) → J (resolved t ts) ss
    → Each (Q ss) (bytes_written (did (writes room) (write_into room (written K (tabled (archive_of K t) ts)))))) where
  -- of the sources so far and those of what follows
  abbrev Q-of : List Source → List Did → Bytes → Type 0
  Q-of ss h w = Q (ss ++ flat (took K) h) w

  first-write : (s : State) (c : Call) (cs : List Call) (ss : List Source) → J s ss → Each (Q-of ss (history K s (c ∷ cs))) (bytes_written (did c (step K s c).answer))
  unfolding step resolve
  first-write (taking t) (takes b) cs ss j = taking-writes-nothing K served (Q-of ss (history K (taking t) (takes b ∷ cs))) t b (parse K b)
  first-write (taking t) resolves cs ss j =
      resolving-writes-nothing K served (Q-of ss (history K (taking t) (resolves ∷ cs))) t (tables K (archive_of K t)) (resolve_rules t (archive_of K t) (tables K (archive_of K t)))
  first-write (taking t) (writes room) cs ss j = tt
  first-write (taking t) (maps p) cs ss j = tt
  first-write (taking t) counts cs ss j = tt
  first-write (taking t) (lists room) cs ss j = tt
  first-write (resolved t ts) (takes b) cs ss j = tt
  first-write (resolved t ts) resolves cs ss j = tt
  first-write (resolved t ts) (writes room) cs ss j =
      subst (λ xs. Each (Q xs) (bytes_written (did (writes room) (write_into room (written K (tabled (archive_of K t) ts))))))
      (sym (ap (λ xs. ss ++ xs) (no_more K served t ts (writes room ∷ cs)) ∙ append-nil ss)) (writes-so t ts ss room j)
  first-write (resolved t ts) (maps p) cs ss j = tt
  first-write (resolved t ts) counts cs ss j = tt
  first-write (resolved t ts) (lists room) cs ss j =
      listing-writes-nothing K served (Q-of ss (history K (resolved t ts) (lists room ∷ cs))) room (listed K room (archive_of K t) (tabled (archive_of K t) ts))
  first-write spoiled c cs ss j = tt

  pub every-write : (s : State) (cs : List Call) (ss : List Source) → Each C cs → J s ss → Each (Q-of ss (history K s cs)) (flat bytes_written (history K s cs))
  unfolding history
  every-write s [] ss e j = tt
  every-write s (c ∷ cs) ss e j =
      let d : Did = did c (step K s c).answer in
      let h : List Did = history K (step K s c).state cs in
      each_append (Q-of ss (d ∷ h)) (bytes_written d) (flat bytes_written h) (first-write s c cs ss j)
      (subst (λ xs. Each (Q xs) (flat bytes_written h)) (append_assoc ss (took K d) (flat (took K) h))
      (every-write (step K s c).state cs (ss ++ took K d) e.1 (goes s c ss e.0 j)))
