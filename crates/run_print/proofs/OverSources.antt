-- What is said over what a run holds is the listing by its definition, where the room is that of any listing.
use mathlib.Core.Path.{◌≡◌, refl, ap, ◌∙◌}
use mathlib.Core.Bool.{Bool, true, false, not, cond}
use mathlib.Core.List.{List, [], ◌∷◌, map}
use mathlib.Core.Option.{Option, none, some}
use Prim.Native.Nat.{ℕ, ◌≤◌}
use native.Mathlib.Omega.{arith}
use lib.Dec.{ltb}
use lib.ListN.{length}
use borrow.Author.Tests.{le-ltb, ltb-false, not-false}
use Rattle.lists.specs.Lists.{is_empty, last, Each}
use Rattle.columns.specs.Limits.{kinds, max_numbers, max_listed}
use Rattle.columns.proofs.Served.{kinds-served}
use Rattle.columns.specs.Refusal.{unless, refuse, first_of}
use Rattle.columns.specs.declared.refusal.Refusal.{Refusal}
use Rattle.columns.specs.declared.refusal.Refusal.TheVariants.{OverRecords, OverNumbers, GroupOrder, NoSurvivor, SliceShort}
use Rattle.columns.proofs.FirstBroken.{each_none, not-refused}
use Rattle.archive.specs.File.{File}
use Rattle.archive.specs.Fits.{FileFits}
use Rattle.archive.specs.Reader.{Parsed, broken, got}
use Rattle.archive.specs.Parse.{parse}
use Rattle.cleaning.specs.Source.{source_of}
use Rattle.cleaning.specs.Taking.{over_records, files_rules, take_rules, taken_from}
use Rattle.cleaning.specs.Archive.{Taken, Archive, archive_of}
use Rattle.cleaning.specs.Memo.{tables}
use Rattle.cleaning.specs.Resolving.{entries, groups_survive, resolve_rules}
use Rattle.cleaning.specs.Summary.{Summary, tabled}
use Rattle.cleaning.specs.Writing.{outputs, write_rules, bytes_of, written}
use Rattle.cleaning.specs.Step.{takes, resolves, lists, Answer, refused, done, wrote, told, counted, printed, taking, resolved, fresh, Outcome, take_more, resolve_by, list_into, resolve, step}
use Rattle.cleaning.specs.Held.{held_of}
use Rattle.cleaning.specs.Lines.{refused_line, listing_text}
use Rattle.cleaning.specs.Listed.{listing_need, listed}
use Rattle.cleaning.specs.Listing.{afterwards, writing, writing_from, cleaning, listing}
use Rattle.cleaning.proofs.Taken.{Followed, taken-followed}
use Rattle.cleaning.proofs.Invariant.{Inv}
use Rattle.cleaning.proofs.Holding.{hold, run_step_lem}
use Rattle.cleaning.proofs.Fitting.{Fitting, Limited, fitting-taken, limited-taken}
use Rattle.cleaning.specs.History.{files_in}
use Rattle.run_text.specs.files.Files.{listing_room}
use Rattle.run.specs.Promises.{listed_from}
use Rattle.run_clean.specs.Cleans.{after}
use Rattle.run_print.specs.Whole.{resolved_list, taken_list, listing_from, said}
use Rattle.run_print.proofs.Room.{room-enough}

said-after : (a b : Answer) → said (after a b) ≡ afterwards refused_line a (said b)
said-after (refused x) b = refl
said-after done b = refl
said-after (wrote w) b = refl
said-after (told n) b = refl
said-after (counted n) b = refl
said-after (printed t) b = refl

-- what a write of a resolved run is made into
abbrev lines : Archive → List File → List ℕ → List ℕ
lines A fs w = listing_text A fs

module _ (room : ℕ) where
  said-listed : (A : Archive) (S : Summary) → listing_need A (outputs kinds S) ≤ room → said (list_into (listed kinds room A S)) ≡ writing refused_line (lines A (outputs kinds S)) (written kinds S)
  unfolding listed written unless first_of
  said-listed A S h = rw (le-ltb room (listing_need A (outputs kinds S)) h) (go (write_rules kinds S))
    where
      go : (x : Option Refusal) → said (list_into (unless (first_of (x ∷ none ∷ [])) (listing_text A (outputs kinds S))))
          ≡ writing refused_line (lines A (outputs kinds S)) (unless x (bytes_of kinds S))
      go none = refl
      go (some x) = refl

  module _ (r : listing_room ≤ room) (t : Taken) (f : Followed kinds none t.sources) (h : Each Fitting t.sources) (l : Limited t.sources) where
    resolved-says : resolve_rules t (archive_of kinds t) (tables kinds (archive_of kinds t)) ≡ none
        → said (listed_from (hold kinds (resolved t (tables kinds (archive_of kinds t)))) room) ≡ writing_from kinds refused_line lines (resolved t (tables kinds (archive_of kinds t)))
    unfolding listed_from Inv step resolve_rules
    resolved-says e =
        let A = archive_of kinds t in
        let ts = tables kinds A in
        let rules = each_none (refuse GroupOrder (is_empty t.sources) ∷ refuse OverNumbers (ltb max_numbers (entries ts)) ∷ refuse NoSurvivor (not (groups_survive A)) ∷ []) e in
        let some_source = not-refused GroupOrder (is_empty t.sources) rules.0 in
        let few = ltb-false max_numbers (entries ts) (not-refused OverNumbers (ltb max_numbers (entries ts)) rules.1.0) in
        let survive = not-false (groups_survive A) (not-refused NoSurvivor (not (groups_survive A)) rules.1.1.0) in
        ap (λ o. said o.answer) (run_step_lem kinds kinds-served (resolved t ts) (lists room) t.sources (refl, f, refl))
        ∙ said-listed A (tabled A ts) (omega (arith, room-enough t f h l some_source few survive))

    taken-by : (x : Option Refusal) → resolve_rules t (archive_of kinds t) (tables kinds (archive_of kinds t)) ≡ x
        → afterwards refused_line (resolve_by t (tables kinds (archive_of kinds t)) x).answer (said (listed_from (hold kinds (resolve_by t (tables kinds (archive_of kinds t)) x).state) room))
        ≡ afterwards refused_line (resolve_by t (tables kinds (archive_of kinds t)) x).answer (writing_from kinds refused_line lines (resolve_by t (tables kinds (archive_of kinds t)) x).state)
    taken-by none e = resolved-says e
    taken-by (some x) e = refl

    taken-says : said (resolved_list (hold kinds (taking t)) room)
        ≡ afterwards refused_line (step kinds (taking t) resolves).answer (writing_from kinds refused_line lines (step kinds (taking t) resolves).state)
    unfolding resolved_list Inv step resolve
    taken-says =
        ap (λ o. said (after o.answer (listed_from o.state room))) (run_step_lem kinds kinds-served (taking t) resolves t.sources (refl, f))
        ∙ said-after (step kinds (taking t) resolves).answer (listed_from (hold kinds (step kinds (taking t) resolves).state) room)
        ∙ taken-by (resolve_rules t (archive_of kinds t) (tables kinds (archive_of kinds t))) refl

  -- ── an archive taken alone ───────────────────────────────────────────────────────────────────

  abbrev Says : Outcome → Type 0
  Says o = said (after o.answer (resolved_list (hold kinds o.state) room))
      ≡ afterwards refused_line o.answer (afterwards refused_line (step kinds o.state resolves).answer (writing_from kinds refused_line lines (step kinds o.state resolves).state))

  abbrev no_source : Taken
  no_source = record { sources = [] }

  module _ (r : listing_room ≤ room) where
    rules-say : (fs : List File) → Each (FileFits kinds) fs → (x : Option Refusal) → take_rules kinds [] fs ≡ x → Says (take_more no_source (unless x (map (source_of kinds) fs)))
    unfolding unless take_rules last
    rules-say fs h (some x) e = refl
    rules-say fs h none e =
        let rules = (each_none _ e).1 in
        let kept : files_rules kinds none fs ≡ none = rules.1.1.0 in
        let few = not-refused OverRecords (over_records [] fs) rules.0 in
        taken-says r (record { sources = map (source_of kinds) fs }) (taken-followed kinds kinds-served none fs kept) (fitting-taken kinds kinds-served none fs kept h)
        (limited-taken kinds kinds-served fs kept h few)

    parse-says : (x : Parsed (List File)) → Each (FileFits kinds) (files_in x) → Says (take_more no_source (taken_from kinds [] x))
    parse-says broken h = refl
    parse-says (got fs end) h = rules-say fs h (take_rules kinds [] fs) refl

    step-says : (b : List ℕ) → Each (FileFits kinds) (files_in (parse kinds b)) → Says (step kinds fresh (takes b))
    unfolding step
    step-says b h = parse-says (parse kinds b) h

    bytes-say : (b : List ℕ) → Each (FileFits kinds) (files_in (parse kinds b)) → said (taken_list b room) ≡ cleaning kinds refused_line lines b
    unfolding taken_list cleaning Inv hold held_of
    bytes-say b h =
        ap (λ o. said (after o.answer (resolved_list o.state room))) (run_step_lem kinds kinds-served fresh (takes b) [] (refl, tt)) ∙ step-says b h

    -- the whole output of the listing program
    pub listing-said : (b : List ℕ) → Each (FileFits kinds) (files_in (parse kinds b)) → said (listing_from b room) ≡ listing kinds b
    unfolding listing_from listing
    listing-said b h = go (ltb max_listed (length b))
      where
        go : (long : Bool) → said (cond long (refused SliceShort) (taken_list b room)) ≡ cond long (refused_line SliceShort) (cleaning kinds refused_line lines b)
        go true = refl
        go false = bytes-say b h
