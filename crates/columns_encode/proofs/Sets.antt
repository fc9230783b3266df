-- What the writers of the three sets ask, out of what is known before, and the three figures of the answer.
use mathlib.Core.Path.{◌≡◌}
use mathlib.Core.List.{List}
use Prim.Native.Nat.{ℕ, ◌*◌, ◌≤◌, ◌<◌}
use native.Mathlib.Omega.{arith}
use lib.ListN.{length}
use Rattle.columns.specs.EdgeSet.{EdgeSet}
use Rattle.columns_encode.specs.declared.writing.Counts.{Counts}
use Rattle.columns_encode.specs.Encoded.{counts_of, Ready}

module _ (first rows from n : ℕ) (offsets targets offs list : List ℕ) (m : ℕ) (r : Ready first rows from n offsets targets offs list m) (k : ℕ) where
  pub starts_room : 2049 ≤ k → 2 * n < k
  starts_room h = omega (arith, r.forward.few, r.forward.inside)

  pub deltas-room : 4096 ≤ k → length targets ≤ k
  deltas-room h = omega (arith, r.reverse.short)

  pub inbound_room : 4096 ≤ k → m ≤ k
  inbound_room h = omega (arith, r.short)

pub three-counted : (f r i : EdgeSet) (a b c : ℕ) → a ≡ f.count → b ≡ r.count → c ≡ i.count → ◌≡◌ {A = Counts} (record { forward = a; reverse = b; inbound = c }) (counts_of f r i)
three-counted f r i a b c p q s = rw (p, q, s)
