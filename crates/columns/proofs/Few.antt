-- Offsets that climb cut out no more targets than they count.
use mathlib.Core.Path.{◌≡◌}
use mathlib.Core.Bool.{true, false≢true}
use mathlib.Core.List.{List, [], ◌∷◌, map}
use Prim.Native.Nat.{ℕ, suc, ◌≤◌, ◌+◌, ◌-◌}
use native.Mathlib.Omega.{arith}
use lib.Dec.{leb, eqb}
use lib.IntN.{ℤ}
use lib.ListN.{length, length-append, length-map}
use lib.Seq.{slice}
use borrow.Author.Tests.{leb-true, eqb-true}
use Rattle.lists.specs.Lists.{joined}
use Rattle.lists.specs.Order.{climbs_to}
use Rattle.lists.proofs.Tests.{both}
use Rattle.lists.proofs.Slices.{slice-short}
use Rattle.columns.specs.EdgeSet.{cut, cut_from, from_to, event_of, target_of}
use Rattle.columns.specs.Reading.{targets_from}

module _ (K first high : ℕ) (deltas : List ℤ) where
  few-from : (s a : ℕ) (bs : List ℕ) → climbs_to high a bs ≡ true → a + length (joined (targets_from K first s (cut_from a bs deltas))) ≤ high
  unfolding climbs_to targets_from cut_from joined
  few-from s a [] e = let k : a ≡ high = eqb-true a high e in omega arith
  few-from s a (b ∷ bs) e =
      let p = both (leb a b) (climbs_to high b bs) e in
      let x = map (target_of (event_of K first s)) (slice a b deltas) in
      let l : length x ≤ b - a = rw length-map (slice-short a b deltas) in
      omega (arith, length-append x (joined (targets_from K first (suc s) (cut_from b bs deltas))), leb-true a b p.0, few-from (suc s) b bs p.1)

  pub few-targets : (offsets : List ℕ) → from_to 0 high offsets ≡ true → length (joined (targets_from K first 0 (cut offsets deltas))) ≤ high
  unfolding cut from_to
  few-targets [] e = absurd (false≢true e)
  few-targets (o ∷ os) e = omega (arith, few-from 0 o os (both (eqb o 0) (climbs_to high o os) e).1)
