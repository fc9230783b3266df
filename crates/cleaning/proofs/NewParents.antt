-- The lists that an accepted write's bytes hold are the ends of the survivors' routes.
use mathlib.Core.Path.{◌≡◌, refl, ap, sym, subst, ◌∙◌}
use mathlib.Core.Bool.{Bool, true, false, cond, not}
use mathlib.Core.List.Memᴰ
use mathlib.Core.List.{List, [], ◌∷◌, ◌++◌, map, append-nil, Memᴰ}
use mathlib.Core.Logic.{◌⊎◌, inl, inr}
use mathlib.Core.Option.{Option, none, some}
use Prim.Native.Nat.{ℕ, zero, suc, ◌+◌, ◌-◌, ◌≤◌, ◌<◌}
use native.Mathlib.Omega.{arith}
use native.Mathlib.Nat.{zero-add}
use lib.Dec.{leb, ltb}
use lib.ListN.{length, get_or, length-map, get_or-map}
use borrow.Author.Tests.{ltb-false}
use Rattle.lists.specs.Lists.{flat, all, sum, once, is_empty, last, Each}
use Rattle.lists.proofs.Each.{each_append, each-imp, each-mem}
use Rattle.lists.proofs.Flat.{get_or-map-up_from, get_or-up_from}
use Rattle.columns.specs.Limits.{Served, max_numbers}
use Rattle.columns.specs.Refusal.{unless, refuse}
use Rattle.columns.specs.Building.{deltas_fit, granule_start, forward_part, reverse_part, inbound_part, build_rules}
use Rattle.columns.specs.declared.refusal.Refusal.{Refusal}
use Rattle.columns.specs.declared.refusal.Refusal.TheVariants.{DeltaRange, OverRecords, OverNumbers, GroupOrder, NoSurvivor, SliceShort}
use Rattle.columns.proofs.FirstBroken.{each_none, each-none-in, not-refused, passed}
use Rattle.archive.specs.File.{File}
use Rattle.archive.specs.Reader.{Parsed, broken, got}
use Rattle.archive.specs.Parse.{parse}
use Rattle.archive.specs.Fits.{FileFits}
use Rattle.archive.proofs.Round.{parse-encode}
use Rattle.archive.proofs.Faithful.{parse-fits}
use Rattle.cleaning.specs.Source.{Source, source_of}
use Rattle.cleaning.specs.Taking.{over_records, take_rules, taken_from}
use Rattle.cleaning.specs.Archive.{Taken, Archive, archive_of, at, parents_of}
use Rattle.cleaning.specs.Routes.{Valid, ends}
use Rattle.cleaning.specs.Cleaning.{rank, renumber, new_parents, survivors}
use Rattle.cleaning.specs.Memo.{tables}
use Rattle.cleaning.specs.Summary.{Summary, kept_by, summary, tabled}
use Rattle.cleaning.specs.Resolving.{entries, groups_survive, resolve_rules}
use Rattle.cleaning.specs.Writing.{graph_of, outputs, group_numbers, write_rules, bytes_of, written}
use Rattle.cleaning.specs.Accepted.{spans_fit}
use Rattle.cleaning.specs.Step.{Call, takes, resolves, writes, maps, counts, lists, Bytes, all_of, refused, wrote, State, taking, resolved, spoiled, fresh, take_more}
use Rattle.cleaning.specs.Step.{resolve_by, write_into, resolve, step}
use Rattle.cleaning.specs.History.{did, files_in, archive_of_files, archive_of_bytes, history, took, bytes_written, archive_in, Wrote, cleaned}
use Rattle.cleaning.specs.NewParents.{NewParents, Renewed, OfBytes, ParentsWritten}
use Rattle.cleaning.proofs.Route.{ends_of}
use Rattle.cleaning.proofs.Inj.{renumber-past}
use Rattle.cleaning.proofs.Survivors.{within, map-rank-survivors}
use Rattle.cleaning.proofs.Tabled.{tabled-summary}
use Rattle.cleaning.proofs.Events.{valid-sources}
use Rattle.cleaning.proofs.Taken.{Followed}
use Rattle.cleaning.proofs.Invariant.{Inv, step_after}
use Rattle.cleaning.proofs.Writes.{archive_from, every-write}
use Rattle.cleaning.proofs.Claim.{write-cleaned}
use Rattle.cleaning.proofs.Good.{Good}
use Rattle.cleaning.proofs.Fitting.{Fitting, Limited, fitting-taken, limited-more}
use Rattle.cleaning.proofs.Goodness.{good-sources}
use Rattle.cleaning.proofs.OutputFits.{files-fit}
use Rattle.cleaning.proofs.Outputs.{event_of}
use Rattle.cleaning.proofs.Unerased.{unerased, blank_row, row_at, at_row}
use Rattle.cleaning.proofs.Again.{archive-again}

-- ── an archive that is written reads back ────────────────────────────────────────────────────

each-true : {A : Type 0} (p : A → Bool) (xs : List A) → Each (λ x. p x ≡ true) xs → all p xs ≡ true
unfolding all
each-true p [] h = refl
each-true p (x ∷ xs) h = rw h.0 (each-true p xs h.1)

spans_fit_lem : (K : ℕ) (served : Served K) (S : Summary) (g : ℕ) → build_rules K (graph_of S g) ≡ none → spans_fit K (graph_of S g) ≡ true
unfolding build_rules spans_fit
spans_fit_lem K served S g e =
    let G = graph_of S g in
    let r = (each_none _ e).1.1.1.1.1.1.1.1.1.1 in
    let a = passed DeltaRange (deltas_fit K (granule_start G) (forward_part K G)) r.0 in
    let b = passed DeltaRange (deltas_fit K (granule_start G) (reverse_part K G)) r.1.0 in
    let c = passed DeltaRange (deltas_fit K (granule_start G) (inbound_part K G)) r.1.1.0 in
    rw (a, b, c)

module _ (K : ℕ) (served : Served K) (S : Summary) (good : Good K S) (e : write_rules K S ≡ none) where
  all-span : all (λ g. spans_fit K (graph_of S g)) (group_numbers S) ≡ true
  unfolding write_rules
  all-span =
      each-true (λ g. spans_fit K (graph_of S g)) (group_numbers S)
      (each-imp (λ g. build_rules K (graph_of S g) ≡ none) (λ g. spans_fit K (graph_of S g) ≡ true) (group_numbers S) (spans_fit_lem K served S)
      (each-none-in (λ g. build_rules K (graph_of S g)) (group_numbers S) e))

  files-back : parse K (bytes_of K S) ≡ got (outputs K S) (length (bytes_of K S))
  unfolding bytes_of
  files-back = parse-encode K (outputs K S) (files-fit K served S good all-span)

  archive-back : archive_of_bytes K (bytes_of K S) ≡ unerased S
  archive-back = ap (λ x. archive_of_files K (files_in x)) files-back ∙ archive-again K served S good

-- ── a survivor's row ─────────────────────────────────────────────────────────────────────────

-- where a member of a list stands
record Stands (x : ℕ) (xs : List ℕ) : Type 0 where
  place : ℕ
  inside : place < length xs
  there : get_or xs place 0 ≡ x

stands : (x : ℕ) (xs : List ℕ) → Memᴰ x xs → Stands x xs
stands x [] m = absurd (Memᴰ.not-nil m)
stands x (y ∷ ys) m = go (Memᴰ.cases_cons m) (λ n. stands x ys n)
  where
    go : (x ≡ y) ⊎ Memᴰ x ys → (Memᴰ x ys → Stands x ys) → Stands x (y ∷ ys)
    go (inl e) f = record { place = 0; inside = omega arith; there = sym e }
    go (inr n) f = record { place = suc (f n).place; inside = omega (arith, (f n).inside); there = (f n).there }

get_or-inside : {A B : Type 0} (f : A → B) (xs : List A) (i : ℕ) (a : A) (b : B) → i < length xs → get_or (map f xs) i b ≡ f (get_or xs i a)
get_or-inside f [] i a b h = absurd (omega arith)
get_or-inside f (x ∷ xs) zero a b h = refl
get_or-inside f (x ∷ xs) (suc i) a b h = get_or-inside f xs i a b (omega arith)

module _ (K : ℕ) (served : Served K) (A : Archive) (p : ℕ) (m : Memᴰ p (survivors A)) where
  s : Stands p (survivors A)
  s = stands p (survivors A) m

  its-rank : rank A p ≡ s.place
  its-rank =
      ap (rank A) (sym s.there) ∙ sym (get_or-map (rank A) (survivors A) s.place 0)
      ∙ ap (λ xs. get_or xs s.place (rank A 0)) (map-rank-survivors A)
      ∙ get_or-up_from 0 (length (survivors A)) s.place (rank A 0) s.inside ∙ zero-add s.place

  past-start : A.start ≤ p
  past-start = (each-mem _ (survivors A) p (within A) m).0

  -- the row at its rank is its own
  its-row : row_at (summary K A) (renumber A p) ≡ kept_by K A p
  unfolding summary
  its-row =
      let e : renumber A p - A.start ≡ s.place = omega (arith, renumber-past A p past-start, its-rank) in
      ap (λ i. get_or (map (kept_by K A) (survivors A)) i blank_row) e
      ∙ get_or-inside (kept_by K A) (survivors A) s.place 0 blank_row s.inside ∙ ap (kept_by K A) s.there

  -- with its new list of each kind
  its-list : (k : ℕ) → k < K → parents_of k (at (unerased (summary K A)) (renumber A p)) ≡ new_parents A k p
  unfolding parents_of kept_by
  its-list k h =
      ap (parents_of k) (at_row (summary K A) (renumber A p) ∙ ap event_of its-row) ∙ get_or-map-up_from (λ j. new_parents A j p) 0 K k [] h ∙ ap (λ j. new_parents A j p) (zero-add k)

module _ (K : ℕ) (served : Served K) (A : Archive) (v : Valid A) (good : Good K (summary K A)) (e : write_rules K (summary K A) ≡ none) where
  new-parents : (p k : ℕ) → Memᴰ p (survivors A) → k < K → NewParents A (archive_of_bytes K (cleaned K A)) p k
  unfolding cleaned new_parents
  new-parents p k m h = record {
    ends = ends A k p;
    routes = ends_of A k v p (past-start K served A p m);
    held = ap (λ B. parents_of k (at B (renumber A p))) (archive-back K served (summary K A) good e) ∙ its-list K served A p m k h;
  }

  renewed : Renewed K A (cleaned K A)
  unfolding cleaned summary
  renewed = record {
    archive = files-back K served (summary K A) good e ∙ ap (λ x. got (files_in x) (length (bytes_of K (summary K A)))) (sym (files-back K served (summary K A) good e));
    events = ap (λ B. length B.events) (archive-back K served (summary K A) good e) ∙ length-map (summary K A).rows event_of ∙ length-map (survivors A) (kept_by K A);
    parents = new-parents;
  }

-- ── every list of calls ──────────────────────────────────────────────────────────────────────

-- what takings of bytes have given: numbers within their bits, figures within the limits
record Few (ss : List Source) : Type 0 where
  fitting : Each Fitting ss
  limited : Limited ss

-- and once resolved, that resolving refused nothing
record Resolvable (K : ℕ) (ss : List Source) : Type 0 where
  some_source : is_empty ss ≡ false
  few_entries : entries (tables K (archive_from K ss)) ≤ max_numbers
  survive : groups_survive (archive_from K ss) ≡ true

abbrev Also : (K : ℕ) → State → List Source → Type 0
Also K (taking t) ss = Few ss
Also K (resolved t ts) ss = Few ss × Resolvable K ss
Also K spoiled ss = ⊥

abbrev Both : (K : ℕ) → State → List Source → Type 0
Both K s ss = Inv K s ss × Also K s ss

none-taken : Few []
unfolding sum once
none-taken = record { fitting = tt; limited = record { events = omega arith; references = omega arith; links = omega arith; groups = omega arith } }

more : (K : ℕ) (served : Served K) (ss : List Source) (fs : List File) → take_rules K ss fs ≡ none → Each (FileFits K) fs → Few ss → Few (ss ++ map (source_of K) fs)
unfolding take_rules
more K served ss fs e h few =
    let r = (each_none _ e).1 in record {
      fitting = each_append Fitting ss (map (source_of K) fs) few.fitting (fitting-taken K served (last ss) fs r.1.1.0 h);
      limited = limited-more K served ss fs r.1.1.0 h (not-refused OverRecords (over_records ss fs) r.0);
    }

take-few : (K : ℕ) (served : Served K) (t : Taken) (b : List ℕ) (x : Parsed (List File)) → parse K b ≡ x → Each (λ x. x < 256) b → (ss : List Source) → t.sources ≡ ss → Few ss
    → Also K (take_more t (taken_from K t.sources x)).state (ss ++ took K (did (takes b) (take_more t (taken_from K t.sources x)).answer))
unfolding unless
take-few K served t b broken e bytes ss i few = rw (append-nil ss) few
take-few K served t b (got fs q) e bytes ss i few = go (take_rules K t.sources fs) refl
  where
    go : (r : Option Refusal) → take_rules K t.sources fs ≡ r
        → Also K (take_more t (unless r (map (source_of K) fs))).state (ss ++ took K (did (takes b) (take_more t (unless r (map (source_of K) fs))).answer))
    go none h =
        let k = subst (λ xs. take_rules K xs fs ≡ none) i h in
        rw e (more K served ss fs k (parse-fits K b fs q bytes e) few)
    go (some r) h = rw (append-nil ss) few

resolve-few : (K : ℕ) (served : Served K) (t : Taken) (r : Option Refusal) → resolve_rules t (archive_of K t) (tables K (archive_of K t)) ≡ r → (ss : List Source) → t.sources ≡ ss → Few ss
    → Also K (resolve_by t (tables K (archive_of K t)) r).state (ss ++ [])
unfolding resolve_rules
resolve-few K served t none e ss i few =
    let A = archive_of K t in
    let r = each_none (refuse GroupOrder (is_empty t.sources) ∷ refuse OverNumbers (ltb max_numbers (entries (tables K A))) ∷ refuse NoSurvivor (not (groups_survive A)) ∷ []) e in
    rw (append-nil ss) (
      few,
      subst (Resolvable K) i (record {
        some_source = not-refused GroupOrder (is_empty t.sources) r.0;
        few_entries = ltb-false max_numbers (entries (tables K A)) (not-refused OverNumbers (ltb max_numbers (entries (tables K A))) r.1.0);
        survive = passed NoSurvivor (groups_survive A) r.1.1.0;
      }),
    )
resolve-few K served t (some x) e ss i few = rw (append-nil ss) few

also-after : (K : ℕ) (served : Served K) (s : State) (c : Call) (ss : List Source) → OfBytes c → Inv K s ss → Also K s ss → Also K (step K s c).state (ss ++ took K (did c (step K s c).answer))
unfolding Inv step resolve
also-after K served (taking t) (takes b) ss o i a = take-few K served t b (parse K b) refl o ss i.0 a
also-after K served (taking t) resolves ss o i a = resolve-few K served t (resolve_rules t (archive_of K t) (tables K (archive_of K t))) refl ss i.0 a
also-after K served (taking t) (writes room) ss o i a = rw (append-nil ss) a
also-after K served (taking t) (maps p) ss o i a = rw (append-nil ss) a
also-after K served (taking t) counts ss o i a = rw (append-nil ss) a
also-after K served (taking t) (lists room) ss o i a = rw (append-nil ss) a
also-after K served (resolved t ts) (takes b) ss o i a = rw (append-nil ss) a
also-after K served (resolved t ts) resolves ss o i a = rw (append-nil ss) a
also-after K served (resolved t ts) (writes room) ss o i a = rw (append-nil ss) a
also-after K served (resolved t ts) (maps p) ss o i a = rw (append-nil ss) a
also-after K served (resolved t ts) counts ss o i a = rw (append-nil ss) a
also-after K served (resolved t ts) (lists room) ss o i a = rw (append-nil ss) a
also-after K served spoiled c ss o i a = absurd a

-- what an accepted write is made of
abbrev Written : (K : ℕ) → List Source → Bytes → Type 0
Written K ss w = Renewed K (archive_from K ss) (cleaned K (archive_from K ss))

write-renews : (K : ℕ) (served : Served K) (t : Taken) (ts : List (List (List ℕ))) (ss : List Source) (room : ℕ) → Both K (resolved t ts) ss
    → Each (Written K ss) (bytes_written (did (writes room) (write_into room (written K (tabled (archive_of K t) ts)))))
unfolding Inv written unless
write-renews K served t ts ss room ((i, f, g), (few, r)) =
    let A = archive_from K ss in
    let same : tabled (archive_of K t) ts ≡ summary K A = rw (g, i) (tabled-summary K served A (valid-sources K served ss f)) in
    rw same (go f few r (write_rules K (summary K A)) refl)
  where
    go : Followed K none ss → Few ss → Resolvable K ss → (x : Option Refusal) → write_rules K (summary K (archive_from K ss)) ≡ x
        → Each (Written K ss) (bytes_written (did (writes room) (write_into room (unless x (bytes_of K (summary K (archive_from K ss)))))))
    go f few r (some x) e = tt
    go f few r none e =
        fits (renewed K served (archive_from K ss) (valid-sources K served ss f) (good-sources K served ss r.some_source f few.fitting few.limited r.few_entries r.survive) e)
        (leb (length (bytes_of K (summary K (archive_from K ss)))) room)
      where
        fits : Renewed K (archive_from K ss) (cleaned K (archive_from K ss)) → (b : Bool)
            → Each (Written K ss) (bytes_written (did (writes room) (cond b (wrote (all_of (bytes_of K (summary K (archive_from K ss))))) (refused SliceShort))))
        fits h true = (h, tt)
        fits h false = tt

pub parents-written : (K : ℕ) (served : Served K) → ParentsWritten K
unfolding Wrote archive_in Inv
parents-written K served cs o w m =
    let h = history K fresh cs in
    subst (λ l. Renewed K (archive_in K h) l) (sym (ap (λ x. x.bytes) (write-cleaned K served cs w m)))
    (each-mem (λ w. Written K (flat (took K) h) w) (flat bytes_written h) w
    (every-write K served (Written K) (Both K) OfBytes (λ s c ss o j. (step_after K served s c ss j.0, also-after K served s c ss o j.0 j.1))
    (write-renews K served) fresh cs [] o ((refl, tt), none-taken)) m)
