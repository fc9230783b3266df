-- Numbers copied to the end of a column.
use mathlib.Core.Path.{◌≡◌}
use mathlib.Core.List.{List, ◌++◌, append-nil, append_assoc}
use Prim.Native.Nat.{ℕ, ◌+◌, ◌-◌, ◌≤◌, ◌<◌}
use native.Mathlib.Numerals.{add-one}
use native.Mathlib.Omega.{arith}
use lib.ListN.{length, get_or, set, take}
use lib.Seq.{slice, slice-cons, take-suc-set}
use Rattle.lists.proofs.Slices.{slice-none}

module _ {t : List ℕ} (all xs : List ℕ) (n i b : ℕ) (e : t ≡ take n all ++ slice i b xs) where
  pub all-copied : b ≤ i → take n all ≡ t
  all-copied h = rw (e, slice-none i b xs h, append-nil)

  pub one-copied : i < b → b ≤ length xs → (end a : ℕ) (was : List ℕ) → n + a ≡ end + i → a ≤ i → end + (b - a) ≤ length was → length all ≡ length was
      → t ≡ take (n + 1) (set all n (get_or xs i 0)) ++ slice (i + 1) b xs
  one-copied h k end a was p o q r =
      let l : n < length all = omega arith in
      rw (e, slice-cons i b xs 0 h k, add-one, add-one, take-suc-set all n (get_or xs i 0) l, append_assoc)
