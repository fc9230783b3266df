-- A listing of sources within the limits of a run takes no more than 437,792 bytes.
use mathlib.Core.Path.{◌≡◌, refl, sym, subst}
use mathlib.Core.Bool.{true, false}
use mathlib.Core.List.{List, [], ◌∷◌}
use mathlib.Core.Option.{none}
use Prim.Native.Nat.{◌+◌, ◌*◌, ◌≤◌}
use native.Mathlib.Omega.{arith}
use lib.ListN.{length, length-map}
use Rattle.lists.specs.Lists.{is_empty, sum, Each}
use Rattle.lists.proofs.Flat.{length-up_from}
use Rattle.columns.specs.Limits.{kinds, max_numbers}
use Rattle.columns.proofs.Served.{kinds-served}
use Rattle.archive.specs.File.{File}
use Rattle.cleaning.specs.Archive.{Taken, archive_of}
use Rattle.cleaning.specs.Memo.{tables}
use Rattle.cleaning.specs.Resolving.{entries, groups_survive}
use Rattle.cleaning.specs.Summary.{Summary, tabled}
use Rattle.cleaning.specs.Writing.{output_of, outputs, group_numbers}
use Rattle.cleaning.proofs.Taken.{Followed}
use Rattle.cleaning.proofs.Events.{valid-sources}
use Rattle.cleaning.proofs.Fitting.{Fitting, Limited}
use Rattle.cleaning.proofs.Figures.{length-events}
use Rattle.cleaning.proofs.Good.{Good}
use Rattle.cleaning.proofs.Goodness.{good-sources}
use Rattle.cleaning.proofs.Tabled.{tabled-summary}
use Rattle.cleaning.proofs.OutputLimits.{few-events, few_forward, few_reverse, few_inbound}
use Rattle.run_text.specs.files.Files.{files_room, listing_room}
use Rattle.cleaning.specs.Listed.{file_need, files_need, listing_need}

needs-sum : (fs : List File)
    → files_need fs
    ≡ 224 * length fs + 126 * sum (λ f. length f.rows) fs
    + 21 * (sum (λ f. length f.forward.deltas) fs + (sum (λ f. length f.reverse.deltas) fs + sum (λ f. length f.inbound.deltas) fs))
unfolding files_need file_need sum
needs-sum [] = refl
needs-sum (f ∷ fs) = omega (arith, needs-sum fs)

files-within : (S : Summary) → Good kinds S → files_need (outputs kinds S) ≤ files_room
unfolding outputs
files-within S good =
    omega (
      arith,
      needs-sum (outputs kinds S),
      length-map (group_numbers S) (output_of kinds S),
      length-up_from 0 (length S.groups),
      good.group_count,
      few-events kinds kinds-served S good,
      few_forward kinds kinds-served S good,
      few_reverse kinds kinds-served S good,
      few_inbound kinds kinds-served S good,
    )

module _ (t : Taken) (f : Followed kinds none t.sources) (h : Each Fitting t.sources) (l : Limited t.sources)
    (e : is_empty t.sources ≡ false) (n : entries (tables kinds (archive_of kinds t)) ≤ max_numbers) (g : groups_survive (archive_of kinds t) ≡ true) where
  pub room-enough : listing_need (archive_of kinds t) (outputs kinds (tabled (archive_of kinds t) (tables kinds (archive_of kinds t)))) ≤ listing_room
  unfolding listing_need archive_of
  room-enough =
      let good : Good kinds (tabled (archive_of kinds t) (tables kinds (archive_of kinds t))) =
      subst (Good kinds) (sym (tabled-summary kinds kinds-served (archive_of kinds t) (valid-sources kinds kinds-served t.sources f))) (good-sources kinds kinds-served t.sources e f h l n g) in
      omega (arith, files-within (tabled (archive_of kinds t) (tables kinds (archive_of kinds t))) good, length-events kinds kinds-served t t.sources, l.events)
