-- The cleaned form of files that are taken and resolved is good.
use mathlib.Core.Path.{◌≡◌, refl, sym}
use mathlib.Core.Bool.{Bool, true, false, cond, false≢true}
use mathlib.Core.List.{List, [], ◌∷◌, map}
use mathlib.Core.Option.{Option, none, some}
use Prim.Native.Nat.{ℕ, suc, ◌≤◌, ◌<◌}
use native.Mathlib.Omega.{arith}
use lib.ListN.{length, length-map}
use Rattle.lists.specs.Lists.{is_empty, Each}
use Rattle.lists.proofs.Each.{each_both}
use Rattle.columns.specs.Limits.{Served, max_numbers}
use Rattle.columns.specs.Building.{subject_ok}
use Rattle.archive.specs.File.{File}
use Rattle.cleaning.specs.Source.{Source, source_of}
use Rattle.cleaning.specs.Archive.{Taken, Event, Group, Archive, groups_of, subject_of, archive_of}
use Rattle.cleaning.specs.Cleaning.{count, survivors}
use Rattle.cleaning.specs.Memo.{tables}
use Rattle.cleaning.specs.Summary.{kept_by, group_summary, summary}
use Rattle.cleaning.specs.Resolving.{entries, groups_survive}
use Rattle.cleaning.specs.History.{archive_of_files}
use Rattle.cleaning.specs.Accepted.{Cleanable}
use Rattle.cleaning.proofs.Good.{GoodBody, Good}
use Rattle.cleaning.proofs.Survivors.{length-survivors}
use Rattle.cleaning.proofs.Taken.{Sound, Followed, taken-followed}
use Rattle.cleaning.proofs.Events.{valid-sources}
use Rattle.cleaning.proofs.Fitting.{Fitting, Limited, fitting-taken, limited-taken}
use Rattle.cleaning.proofs.Groups.{Covered, each-covered, groups-once}
use Rattle.cleaning.proofs.GoodGroups.{good-groups, few-links}
use Rattle.cleaning.proofs.Kept.{each_row, sum_rows, rows-level, group-has-row}
use Rattle.cleaning.proofs.Bodies.{good-bodies}
use Rattle.cleaning.proofs.Figures.{length-events, ends-before, groups-level, few-references}
use Rattle.cleaning.proofs.NewLists.{lists-good, entries-within}

each-sound : (K : ℕ) (served : Served K) (before : Option Source) (ss : List Source) → Followed K before ss → Each (Sound K) ss
each-sound K served before [] f = tt
each-sound K served before (s ∷ ss) f = (f.0, each-sound K served (some s) ss f.2)

subject-good : (K : ℕ) (served : Served K) (ss : List Source) → is_empty ss ≡ false → Each (λ s. Sound K s × Fitting s) ss → (subject_ok (subject_of ss) ≡ true) × Each (λ b. b < 256) (subject_of ss)
unfolding is_empty
subject-good K served [] e h = absurd (false≢true (sym e))
subject-good K served (s ∷ ss) e h = (h.0.0.subject, h.0.1.subject)

some-group : (ss : List Source) (gs : List Group) → is_empty ss ≡ false → Each (Covered gs) ss → 0 < length gs
unfolding is_empty
some-group [] gs e h = absurd (false≢true (sym e))
some-group (s ∷ ss) gs e h = omega (arith, h.0.0)

-- a survivor for each row
count-le : (es : List Event) → count es ≤ length es
unfolding count
count-le [] = omega arith
count-le (e ∷ es) = go e.erased (count-le es)
  where
    go : (b : Bool) → count es ≤ length es → cond b (count es) (suc (count es)) ≤ suc (length es)
    go true h = omega arith
    go false h = omega arith

row_count_lem : (K : ℕ) (served : Served K) (A : Archive) → length (summary K A).rows ≤ length A.events
unfolding summary
row_count_lem K served A = omega (arith, length-map (survivors A) (kept_by K A), length-survivors A, count-le A.events)

abbrev archive_from : (K : ℕ) → List Source → Archive
archive_from K ss = archive_of K (record { sources = ss })

pub good-sources : (K : ℕ) (served : Served K) (ss : List Source) → is_empty ss ≡ false → Followed K none ss → Each Fitting ss → Limited ss
    → entries (tables K (archive_from K ss)) ≤ max_numbers → groups_survive (archive_from K ss) ≡ true → Good K (summary K (archive_from K ss))
unfolding summary archive_of
good-sources K served ss e f h l n g =
    let t : Taken = record { sources = ss } in
    let A : Archive = archive_of K t in
    let gs : List Group = groups_of ss in
    let v = valid-sources K served ss f in
    let c = each-covered K served ss f in
    let b : Each (λ s. Sound K s × Fitting s) ss = each_both (Sound K) Fitting ss (each-sound K served none ss f) h in
    record {
      subject = (subject-good K served ss e b).0;
      subject_bytes = (subject-good K served ss e b).1;
      some = omega (arith, length-map gs group_summary, some-group ss gs e c);
      group_count = omega (arith, length-map gs group_summary, groups-once K served ss f, l.groups);
      row_count = omega (arith, row_count_lem K served A, length-events K served t ss, l.events);
      numbers = omega (arith, row_count_lem K served A, ends-before K served t ss f);
      lists = lists-good K served A v;
      entries = omega (arith, entries-within K served A v);
      bodies = each_row K served A (GoodBody (map group_summary gs)) (good-bodies K served t gs ss (each_both (Covered gs) (λ s. Sound K s × Fitting s) ss c b));
      order = rows-level K served A (groups-level K served t ss f);
      every = λ i o. group-has-row K served A g i (omega (arith, length-map gs group_summary));
      groups = good-groups K served ss b;
      links = omega (arith, few-links ss, l.links);
      references = omega (arith, sum_rows K served A (λ b. length b.unresolved), few-references K served t ss, l.references);
    }

pub not-empty : (K : ℕ) (served : Served K) (fs : List File) → is_empty fs ≡ false → is_empty (map (source_of K) fs) ≡ false
unfolding is_empty
not-empty K served [] e = e
not-empty K served (f ∷ fs) e = refl

pub good : (K : ℕ) (served : Served K) (fs : List File) → Cleanable K fs → Good K (summary K (archive_of_files K fs))
good K served fs c =
    good-sources K served (map (source_of K) fs) (not-empty K served fs c.files) (taken-followed K served none fs c.rules) (fitting-taken K served none fs c.rules c.fits)
    (limited-taken K served fs c.rules c.fits c.records) c.new_lists c.survivors
