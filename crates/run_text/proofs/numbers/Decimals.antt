-- Numbers as text: a digit more or less, and how many there are.
use mathlib.Core.Path.{◌≡◌, ◌∙◌, ap}
use mathlib.Core.Logic.{inl, inr}
use mathlib.Core.List.{[], ◌∷◌, ◌++◌}
use Prim.Native.Nat.{ℕ, zero, suc, ◌+◌, ◌-◌, ◌*◌, ◌/◌, ◌%◌, ◌^◌, ◌≤◌, ◌<◌}
use native.Mathlib.Nat.{not-suc-le-zero, div-lt_iff_lt-mul, pow-suc}
use native.Mathlib.Omega.{arith}
use lib.Dec.{ltb}
use lib.IntN.{ℤ, pos, negsuc}
use lib.ListN.{length, length-append}
use mir.Syntax.{w64}
use mir.Val.{SFits, to_z, of_z}
use mir.ValLaws.{to_z-of_z}
use borrow.Author.Tests.{lt-ltb, le-ltb, ltb-true, ltb-false}
use Rattle.lists.proofs.Tests.{tested}
use Rattle.archive_bytes.specs.Bytes.{unsigned_of}
use Rattle.cleaning.specs.Lines.{digits_from, decimal, signed}

-- ── digits ───────────────────────────────────────────────────────────────────────────────────

-- any bound above n gives all digits of n
enough : (b c n : ℕ) → n < b → n < c → digits_from b n ≡ digits_from c n
unfolding digits_from
enough zero c n h k = absurd (not-suc-le-zero h)
enough (suc b) zero n h k = absurd (not-suc-le-zero k)
enough (suc b) (suc c) n h k = elim (tested (ltb n 10)) [
  | inl e ↦ rw e
  | inr e ↦ let g = ltb-false n 10 e in rw (e, enough b c (n / 10) (omega arith) (omega arith))
]

module _ (n : ℕ) where
  pub decimal-one : n < 10 → decimal n ≡ (48 + n) ∷ []
  unfolding decimal digits_from
  decimal-one h = rw (lt-ltb n 10 h)

  pub decimal-more : 10 ≤ n → decimal n ≡ decimal (n / 10) ++ ((48 + n % 10) ∷ [])
  unfolding decimal digits_from
  decimal-more h = rw (le-ltb n 10 h) (ap (λ ds. ds ++ ((48 + n % 10) ∷ [])) (enough n (suc (n / 10)) (n / 10) (omega arith) (omega arith)))

-- ── how many ─────────────────────────────────────────────────────────────────────────────────

-- a number below 10 ^ k has at most k digits
pub decimal-short : (k n : ℕ) → n < 10 ^ suc k → length (decimal n) ≤ suc k
decimal-short zero n h = rw (decimal-one n (omega arith)) (omega arith)
decimal-short (suc k) n h = elim (tested (ltb n 10)) [
  | inl e ↦ rw (decimal-one n (ltb-true n 10 e)) (omega arith)
  | inr e ↦ let g : n < 10 ^ suc k * 10 = rw (pow-suc 10 (suc k)) at h in
      let q : n / 10 < 10 ^ suc k = (div-lt_iff_lt-mul {k = 10} (omega arith)).1 g in
      rw (decimal-more n (ltb-false n 10 e), length-append) (omega (arith, decimal-short k (n / 10) q))
]

pub decimal-size : (n : ℕ) → n < 2 ^ 64 → length (decimal n) ≤ 20
decimal-size n h = decimal-short 19 n (omega arith)

-- ── signed numbers by two's complement ───────────────────────────────────────────────────────

module _ (d : ℤ) (s : SFits w64 d) {n : ℕ} (e : n ≡ unsigned_of (to_z w64 (of_z w64 d))) where
  back : n ≡ unsigned_of d
  back = e ∙ ap unsigned_of (to_z-of_z w64 d s)

  pub signed-plain : n < 9223372036854775808 → signed d ≡ decimal n
  unfolding signed unsigned_of
  signed-plain h = go d s back
    where
      go : (d : ℤ) → SFits w64 d → n ≡ unsigned_of d → signed d ≡ decimal n
      go (pos m) s f = rw f
      go (negsuc m) s f = absurd (omega (arith, s.sfits, f))

  pub signed-minus : 9223372036854775808 ≤ n → signed d ≡ 45 ∷ decimal (18446744073709551615 - n + 1)
  unfolding signed unsigned_of
  signed-minus h = go d s back
    where
      go : (d : ℤ) → SFits w64 d → n ≡ unsigned_of d → signed d ≡ 45 ∷ decimal (18446744073709551615 - n + 1)
      go (pos m) s f = absurd (omega (arith, s.sfits, f))
      go (negsuc m) s f = let z : suc m ≡ 18446744073709551615 - n + 1 = omega (arith, s.sfits, f) in ap (λ k. 45 ∷ decimal k) z
