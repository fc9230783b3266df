-- One turn of the loops over the records of rows: the flag of a row looked up, a row's number put in its place.
use mathlib.Core.Path.{◌≡◌}
use mathlib.Core.List.{List, ◌++◌, append-nil, append_assoc}
use Prim.Native.Nat.{ℕ, suc, ◌+◌, ◌-◌, ◌≤◌, ◌<◌}
use native.Mathlib.Numerals.{add-one}
use native.Mathlib.Omega.{arith}
use lib.ListN.{length, get_or, set, take}
use lib.Seq.{slice, slice-cons, take-suc-set, take-set-lt, drop-set-lt}
use Rattle.lists.proofs.Slices.{slice-none}
use Rattle.run_compact.specs.Columns.{flags_of, new_rows}

module _ {t : List ℕ} (out fs xs : List ℕ) (base i n : ℕ) (e : t ≡ take i out ++ flags_of base fs (slice i n xs)) where
  pub flags-put : n ≤ i → i ≤ n → take n out ≡ t
  unfolding flags_of
  flags-put h k = let q : i ≡ n = omega arith in rw (e, slice-none i n xs h, append-nil, q)

  pub one-flag : i < n → n ≤ length xs → n ≤ 1024 → (ys : List ℕ) → length out ≡ length ys → length ys ≡ 1024 → (f : ℕ) → f ≡ get_or fs (get_or xs i 0 - base) 0
      → t ≡ take (i + 1) (set out i f) ++ flags_of base fs (slice (i + 1) n xs)
  unfolding flags_of
  one-flag h k m ys a b f q = let l : i < length out = omega arith in
      rw (e, slice-cons i n xs 0 h k, add-one, take-suc-set out i f l, append_assoc, q)

module _ {t : List ℕ} (xs ns : List ℕ) (base from i n : ℕ) (e : t ≡ take i xs ++ new_rows base from ns (slice i n xs)) where
  pub rows-moved : n ≤ i → i ≤ n → take n xs ≡ t
  unfolding new_rows
  rows-moved h k = let q : i ≡ n = omega arith in rw (e, slice-none i n xs h, append-nil, q)

  pub one-moved : i < n → n ≤ 1024 → (ys : List ℕ) → length xs ≡ length ys → length ys ≡ 1024 → (x : ℕ) → x ≡ get_or ns (get_or xs i 0 - base) 0 - from
      → t ≡ take (i + 1) (set xs i x) ++ new_rows base from ns (slice (i + 1) n (set xs i x))
  unfolding new_rows
  one-moved h m ys b p x q =
      let k : n ≤ length xs = omega arith in
      let a : i < length xs = omega arith in
      let d : i < suc i = omega arith in
      rw (e, slice-cons i n xs 0 h k, add-one, take-suc-set xs i x a, take-set-lt n xs i x h, drop-set-lt (suc i) (take n xs) i x d, append_assoc, q)
