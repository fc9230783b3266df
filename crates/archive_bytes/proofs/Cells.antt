-- One number in lent bytes: the functions that read and write it.
use mathlib.Core.Path.{◌≡◌}
use mathlib.Core.List.{List}
use Prim.Native.Nat.{ℕ, ◌<◌, ◌+◌, ◌*◌, ◌/◌, ◌%◌, ◌^◌}
use native.Mathlib.Nat.{add-zero, add_assoc}
use native.Mathlib.Numerals.{add-one, add-two, add-three, add-four}
use native.Mathlib.Omega.{arith}
use lib.ListN.{get_or, set}
use lib.Seq.{sets}
use Rattle.archive_bytes.specs.Bytes.{be, bytes_of}

-- ── reading ──────────────────────────────────────────────────────────────────────────────────

pub be-one : (l : List ℕ) (p : ℕ) → be 1 l p ≡ get_or l p 0
unfolding be
be-one l p = let z : get_or l (p + 0) 0 ≡ get_or l p 0 = rw add-zero in omega arith

module _ (l : List ℕ) (p : ℕ) where
  pub four : {a b c d : ℕ} → a ≡ get_or l p 0 → b ≡ get_or l (p + 1) 0 → c ≡ get_or l (p + 2) 0 → d ≡ get_or l (p + 3) 0
      → ((a * 256 + b) * 256 + c) * 256 + d ≡ be 4 l p
  unfolding be
  four e f g h = let z : get_or l (p + 0) 0 ≡ get_or l p 0 = rw add-zero in omega arith

  pub eight : {a b : ℕ} → a ≡ be 4 l p → b ≡ be 4 l (p + 4) → a * 4294967296 + b ≡ be 8 l p
  unfolding be
  eight e f = let z = simp (add_assoc, add-zero) at f in omega arith

-- ── writing ──────────────────────────────────────────────────────────────────────────────────

module _ (l : List ℕ) (p n : ℕ) where
  pub store4 : {a b c d : ℕ} → n < 2 ^ 32 → a ≡ n / 16777216 → b ≡ n / 65536 % 256 → c ≡ n / 256 % 256 → d ≡ n % 256
      → set (set (set (set l p a) (p + 1) b) (p + 2) c) (p + 3) d ≡ sets l p (bytes_of 4 n)
  unfolding bytes_of
  store4 {a} {b} {c} {d} h e f g k =
      let e' : a ≡ n / 256 / 256 / 256 % 256 = omega arith in
      let f' : b ≡ n / 256 / 256 % 256 = omega arith in
      rw (e', f', g, k, add-one, add-two, add-three)

  pub store8 : {k m : List ℕ} → k ≡ sets l p (bytes_of 4 (n / 4294967296)) → m ≡ sets k (p + 4) (bytes_of 4 (n % 4294967296)) → m ≡ sets l p (bytes_of 8 n)
  unfolding bytes_of
  store8 e f =
      let a0 : n / 4294967296 / 256 / 256 / 256 % 256 ≡ n / 256 / 256 / 256 / 256 / 256 / 256 / 256 % 256 = omega arith in
      let a1 : n / 4294967296 / 256 / 256 % 256 ≡ n / 256 / 256 / 256 / 256 / 256 / 256 % 256 = omega arith in
      let a2 : n / 4294967296 / 256 % 256 ≡ n / 256 / 256 / 256 / 256 / 256 % 256 = omega arith in
      let a3 : n / 4294967296 % 256 ≡ n / 256 / 256 / 256 / 256 % 256 = omega arith in
      let a4 : n % 4294967296 / 256 / 256 / 256 % 256 ≡ n / 256 / 256 / 256 % 256 = omega arith in
      let a5 : n % 4294967296 / 256 / 256 % 256 ≡ n / 256 / 256 % 256 = omega arith in
      let a6 : n % 4294967296 / 256 % 256 ≡ n / 256 % 256 = omega arith in
      let a7 : n % 4294967296 % 256 ≡ n % 256 = omega arith in
      rw (f, e, a0, a1, a2, a3, a4, a5, a6, a7, add-four)
