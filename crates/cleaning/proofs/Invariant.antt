-- What a run's state is, call after call: the sources of its accepted takings, sound and in order, and once resolved their tables.
use mathlib.Core.Path.{◌≡◌, refl, ap}
use mathlib.Core.List.{List, [], ◌∷◌, ◌++◌, map, append-nil}
use mathlib.Core.Option.{Option, none, some}
use Rattle.columns.specs.Limits.{Served}
use Rattle.lists.specs.Lists.{flat, last}
use Rattle.columns.specs.Refusal.{unless}
use Rattle.columns.specs.declared.refusal.Refusal.{Refusal}
use Prim.Native.Nat.{ℕ}
use Rattle.archive.specs.File.{File}
use Rattle.archive.specs.Reader.{Parsed, broken, got}
use Rattle.archive.specs.Parse.{parse}
use Rattle.cleaning.specs.Source.{Source, source_of}
use Rattle.cleaning.specs.Taking.{files_rules, take_rules, taken_from}
use Rattle.cleaning.specs.Archive.{Taken, archive_of}
use Rattle.cleaning.specs.Memo.{tables}
use Rattle.cleaning.specs.Resolving.{resolve_rules}
use Rattle.cleaning.specs.Step.{Call, takes, resolves, writes, maps, counts, lists, State, taking, resolved, spoiled, Outcome, take_more, resolve_by, resolve, step}
use Rattle.cleaning.specs.History.{did, history, took}
use Rattle.columns.proofs.FirstBroken.{each_none}
use Rattle.cleaning.proofs.Taken.{Followed, taken-followed, followed-append}

-- the state of a run whose accepted takings have given the sources ss
unfoldable pub Inv : (K : ℕ) → State → List Source → Type 0
Inv K (taking t) ss = (t.sources ≡ ss) × Followed K none ss
Inv K (resolved t ts) ss = (t.sources ≡ ss) × Followed K none ss × (ts ≡ tables K (archive_of K t))
Inv K spoiled ss = ⊥

-- the same with what a call has taken
abbrev After : (K : ℕ) → Call → Outcome → List Source → Type 0
After K c o ss = Inv K o.state (ss ++ took K (did c o.answer))

-- a call that takes nothing and leaves the state
quiet : (K : ℕ) (served : Served K) (s : State) (ss : List Source) → Inv K s ss → Inv K s (ss ++ [])
quiet K served s ss i = rw (append-nil ss) i

-- ── taking ───────────────────────────────────────────────────────────────────────────────────

rules-of-files : (K : ℕ) (served : Served K) (ss : List Source) (fs : List File) → take_rules K ss fs ≡ none → files_rules K (last ss) fs ≡ none
unfolding take_rules
rules-of-files K served ss fs e = (each_none _ e).1.1.1.0

take_after : (K : ℕ) (served : Served K) (t : Taken) (b : List ℕ) (x : Parsed (List File)) → parse K b ≡ x → (ss : List Source) → Inv K (taking t) ss
    → After K (takes b) (take_more t (taken_from K t.sources x)) ss
unfolding Inv unless
take_after K served t b broken e ss i = quiet K served (taking t) ss i
take_after K served t b (got fs q) e ss i = go (take_rules K t.sources fs) refl
  where
    go : (r : Option Refusal) → take_rules K t.sources fs ≡ r → After K (takes b) (take_more t (unless r (map (source_of K) fs))) ss
    go none h = rw e (
      ap (λ s. s ++ map (source_of K) fs) i.0,
      followed-append K served ss (map (source_of K) fs) i.1 (taken-followed K served (last ss) fs (rw i.0 at (rules-of-files K served t.sources fs h))),
    )
    go (some r) h = quiet K served (taking t) ss i

-- ── resolving ────────────────────────────────────────────────────────────────────────────────

resolve-after : (K : ℕ) (served : Served K) (t : Taken) (r : Option Refusal) (ss : List Source) → Inv K (taking t) ss → After K resolves (resolve_by t (tables K (archive_of K t)) r) ss
unfolding Inv
resolve-after K served t none ss i = rw (append-nil ss) (i.0, i.1, refl)
resolve-after K served t (some r) ss i = quiet K served (taking t) ss i

-- ── every call ───────────────────────────────────────────────────────────────────────────────

pub step_after : (K : ℕ) (served : Served K) (s : State) (c : Call) (ss : List Source) → Inv K s ss → Inv K (step K s c).state (ss ++ took K (did c (step K s c).answer))
unfolding Inv step resolve
step_after K served (taking t) (takes b) ss i = take_after K served t b (parse K b) refl ss i
step_after K served (taking t) resolves ss i = resolve-after K served t (resolve_rules t (archive_of K t) (tables K (archive_of K t))) ss i
step_after K served (taking t) (writes room) ss i = quiet K served (taking t) ss i
step_after K served (taking t) (maps p) ss i = quiet K served (taking t) ss i
step_after K served (taking t) counts ss i = quiet K served (taking t) ss i
step_after K served (taking t) (lists room) ss i = quiet K served (taking t) ss i
step_after K served (resolved t ts) (takes b) ss i = quiet K served (resolved t ts) ss i
step_after K served (resolved t ts) resolves ss i = quiet K served (resolved t ts) ss i
step_after K served (resolved t ts) (writes room) ss i = quiet K served (resolved t ts) ss i
step_after K served (resolved t ts) (maps p) ss i = quiet K served (resolved t ts) ss i
step_after K served (resolved t ts) counts ss i = quiet K served (resolved t ts) ss i
step_after K served (resolved t ts) (lists room) ss i = quiet K served (resolved t ts) ss i
step_after K served spoiled c ss i = absurd i

-- once resolved, nothing is taken
pub no_more : (K : ℕ) (served : Served K) (t : Taken) (ts : List (List (List ℕ))) (cs : List Call) → flat (took K) (history K (resolved t ts) cs) ≡ []
unfolding history step
no_more K served t ts [] = refl
no_more K served t ts (takes b ∷ cs) = no_more K served t ts cs
no_more K served t ts (resolves ∷ cs) = no_more K served t ts cs
no_more K served t ts (writes room ∷ cs) = no_more K served t ts cs
no_more K served t ts (maps p ∷ cs) = no_more K served t ts cs
no_more K served t ts (counts ∷ cs) = no_more K served t ts cs
no_more K served t ts (lists room ∷ cs) = no_more K served t ts cs
