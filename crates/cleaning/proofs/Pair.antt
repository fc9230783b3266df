-- Two archives that differ in what is erased are alike, by computation.
use mathlib.Core.Path.{◌≡◌, refl, ap}
use mathlib.Core.List.Memᴰ
use mathlib.Core.List.{List, [], ◌∷◌}
use mathlib.Core.Logic.{inl, inr}
use Prim.Native.Nat.{ℕ, zero, suc, ◌<◌}
use native.Mathlib.Omega.{arith}
use lib.ListN.{length}
use Rattle.lists.specs.Lists.{Pairs, once}
use Rattle.columns.specs.Limits.{kinds}
use Rattle.cleaning.specs.Archive.{Archive}
use Rattle.cleaning.specs.Routes.{ends}
use Rattle.cleaning.specs.Computes.{computes}
use Rattle.cleaning.specs.Step.{Call, takes, resolves, writes, maps, counts, lists, fresh}
use Rattle.cleaning.specs.History.{history, archive_in, Wrote}
use Rattle.cleaning.specs.Alike.{SameEnd, SameSurvivor}
use Rattle.cleaning.specs.Listing.{cleaning, cleaned_bytes}
use Rattle.cleaning.specs.Worked.{worked_file}
use Rattle.cleaning.specs.Pair.{other_file, cleaning_of, PairMeets}

abbrev A : Archive
A = archive_in kinds (history kinds fresh (cleaning_of worked_file))

abbrev B : Archive
B = archive_in kinds (history kinds fresh (cleaning_of other_file))

-- the number of bytes that the first call takes
taken : List Call → ℕ
taken [] = 0
taken (takes b ∷ cs) = length b
taken (resolves ∷ cs) = 0
taken (writes room ∷ cs) = 0
taken (maps p ∷ cs) = 0
taken (counts ∷ cs) = 0
taken (lists room ∷ cs) = 0

first_ends : (k : ℕ) → k < kinds → Pairs (SameEnd A B) (once (ends A k 100)) (once (ends B k 100))
unfolding computes history archive_in worked_file other_file cleaning_of SameEnd
first_ends zero h = (inl (omega arith, refl), tt)
first_ends (suc zero) h = tt
first_ends (suc (suc k)) h = absurd (omega arith)

last-ends : (k : ℕ) → k < kinds → Pairs (SameEnd A B) (once (ends A k 103)) (once (ends B k 102))
unfolding computes history archive_in worked_file other_file cleaning_of SameEnd
last-ends zero h = (inr (omega arith, omega arith, refl), (inl (omega arith, refl), tt))
last-ends (suc zero) h = (inr (omega arith, omega arith, refl), tt)
last-ends (suc (suc k)) h = absurd (omega arith)

first-same : SameSurvivor kinds A B 100 100
unfolding computes history archive_in worked_file other_file cleaning_of
first-same = record { same_group = refl; same_tag = refl; same_label = refl; same_root = refl; same_unresolved = refl; same_ends = first_ends }

last-same : SameSurvivor kinds A B 103 102
unfolding computes history archive_in worked_file other_file cleaning_of
last-same = record { same_group = refl; same_tag = refl; same_label = refl; same_root = refl; same_unresolved = refl; same_ends = last-ends }

pub pair-meets : PairMeets
unfolding computes cleaning cleaned_bytes history archive_in Wrote worked_file other_file cleaning_of taken
pair-meets = record {
  differ = λ e. let n : ◌≡◌ {A = ℕ} 409 328 = ap taken e in absurd (omega arith);
  alike = record {
    same_start = refl;
    same_subject = refl;
    same_groups = (record { same_depth = refl; same_cover = tt }, tt);
    same_survivors = (first-same, (last-same, tt));
  };
  left = Memᴰ.head refl;
  right = Memᴰ.head refl;
}
