-- Files within the limits, with a survivor in every group and neither 10 nor 15 at writing, are taken, resolved and written, as their cleaned archive.
use mathlib.Core.Path.{◌≡◌, refl}
use mathlib.Core.Bool.{not}
use mathlib.Core.List.Memᴰ
use mathlib.Core.List.{List, [], ◌∷◌, map}
use mathlib.Core.Option.{none}
use Prim.Native.Nat.{ℕ, ◌≤◌}
use lib.Dec.{ltb}
use lib.ListN.{length}
use borrow.Author.Tests.{le-leb, le-ltb}
use Rattle.lists.specs.Lists.{is_empty, last}
use Rattle.columns.specs.Limits.{Served, max_numbers}
use Rattle.columns.specs.Refusal.{unless, refuse}
use Rattle.columns.specs.declared.refusal.Refusal.TheVariants.{OverRecords, OverNumbers, GroupOrder, NoSurvivor, RecordBroken}
use Rattle.archive.specs.File.{File}
use Rattle.archive.specs.Encode.{encode}
use Rattle.archive.proofs.Round.{parse-encode}
use Rattle.cleaning.specs.Source.{source_of}
use Rattle.cleaning.specs.Taking.{over_records, over_numbers, carries, take_rules}
use Rattle.cleaning.specs.Memo.{tables}
use Rattle.cleaning.specs.Resolving.{entries, groups_survive, resolve_rules}
use Rattle.cleaning.specs.Writing.{written}
use Rattle.cleaning.specs.Step.{takes, resolves, writes, done, wrote, all_of, taking, resolved, fresh, outcome, resolve, step}
use Rattle.cleaning.specs.History.{archive_of_files, history, Wrote, cleaned}
use Rattle.cleaning.specs.Accepted.{Cleanable, Accepted}
use Rattle.columns.proofs.FirstBroken.{none_of, passes, fails}
use Rattle.cleaning.proofs.Taken.{taken-followed}
use Rattle.cleaning.proofs.Events.{valid-sources}
use Rattle.cleaning.proofs.Tabled.{tabled-summary}
use Rattle.cleaning.proofs.Goodness.{not-empty}
use Rattle.cleaning.proofs.WriteRules.{nothing-refused}

module _ (K : ℕ) (served : Served K) (fs : List File) (c : Cleanable K fs) where
  -- ── the rules of each call ───────────────────────────────────────────────────────────────────

  take_none : take_rules K [] fs ≡ none
  unfolding take_rules last
  take_none = none_of _
      (fails RecordBroken (carries fs) c.references, (fails OverRecords (over_records [] fs) c.records, (fails OverNumbers (over_numbers [] fs) c.numbers, (c.rules, tt))))

  resolve-none : resolve_rules (record { sources = map (source_of K) fs }) (archive_of_files K fs) (tables K (archive_of_files K fs)) ≡ none
  unfolding resolve_rules
  resolve-none =
      let few = ltb max_numbers (entries (tables K (archive_of_files K fs))) in
      none_of (refuse GroupOrder (is_empty (map (source_of K) fs)) ∷ refuse OverNumbers few ∷ refuse NoSurvivor (not (groups_survive (archive_of_files K fs))) ∷ []) (
        fails GroupOrder (is_empty (map (source_of K) fs)) (not-empty K served fs c.files),
        (
          fails OverNumbers few (le-ltb max_numbers (entries (tables K (archive_of_files K fs))) c.new_lists),
          (passes NoSurvivor (groups_survive (archive_of_files K fs)) c.survivors, tt),
        ),
      )

  -- ── the calls ────────────────────────────────────────────────────────────────────────────────

  taken : step K fresh (takes (encode fs)) ≡ outcome (taking (record { sources = map (source_of K) fs })) done
  unfolding step unless
  taken = rw (parse-encode K fs c.fits, take_none)

  resolved-then : step K (taking (record { sources = map (source_of K) fs })) resolves ≡ outcome (resolved (record { sources = map (source_of K) fs }) (tables K (archive_of_files K fs))) done
  unfolding step resolve
  resolved-then = rw resolve-none

  written_then : (room : ℕ) → length (cleaned K (archive_of_files K fs)) ≤ room
      → (step K (resolved (record { sources = map (source_of K) fs }) (tables K (archive_of_files K fs))) (writes room)).answer ≡ wrote (all_of (cleaned K (archive_of_files K fs)))
  unfolding step written unless cleaned
  written_then room l =
      rw (
        tabled-summary K served (archive_of_files K fs) (valid-sources K served (map (source_of K) fs) (taken-followed K served none fs c.rules)),
        nothing-refused K served fs c,
        le-leb (length (cleaned K (archive_of_files K fs))) room l,
      )

pub accepted : (K : ℕ) (served : Served K) → Accepted K
unfolding history Wrote
accepted K served fs c room l = rw (taken K served fs c, resolved-then K served fs c, written_then K served fs c room l) (Memᴰ.head refl)
