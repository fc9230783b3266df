-- Two's complement by sums and differences that fit their types.
use mathlib.Core.Path.{◌≡◌, refl, sym, ◌∙◌, ap}
use mathlib.Core.Bool.{true, false, false≢true}
use Prim.Native.Nat.{ℕ, zero, suc, ◌≤◌, ◌<◌, ◌-◌, ◌^◌}
use native.Mathlib.Omega.{arith}
use lib.Dec.{T, ltb}
use lib.IntN.{ℤ, pos, negsuc, nat_abs, ◌-ℤ◌}
use lib.Signed.{lt_z, non_neg, mag}
use mir.Syntax.{w64}
use mir.Val.{Fits, SFits, to_z, of_z}
use mir.ValLaws.{to_z-of_z, to_z_pos}
use borrow.Author.Tests.{le-ltb, lt-ltb, ltb-true}
use Rattle.archive_bytes.specs.Bytes.{signed_of, unsigned_of}

flip : (k : ℕ) → negsuc 0 -ℤ pos k ≡ negsuc k
flip zero = refl
flip (suc k) = ap negsuc (omega arith)

module _ (n : ℕ) where
  pub low : n < 9223372036854775808 → to_z w64 n ≡ signed_of n
  unfolding signed_of
  low h = to_z_pos w64 n h ∙ rw (lt-ltb n 9223372036854775808 h)

  module _ (f : Fits w64 n) (h : 9223372036854775808 ≤ n) where
    here : negsuc 0 -ℤ to_z w64 (18446744073709551615 - n) ≡ negsuc (18446744073709551615 - n)
    here = let z : 18446744073709551615 - n < 2 ^ 63 = omega arith in rw (to_z_pos w64 (18446744073709551615 - n) z) (flip (18446744073709551615 - n))

    pub high_fits : SFits w64 (negsuc 0 -ℤ to_z w64 (18446744073709551615 - n))
    high_fits = rw here (record { sfits = omega arith })

    pub high : to_z w64 (of_z w64 (negsuc 0 -ℤ to_z w64 (18446744073709551615 - n))) ≡ signed_of n
    unfolding signed_of
    high = to_z-of_z w64 (negsuc 0 -ℤ to_z w64 (18446744073709551615 - n)) high_fits ∙ here ∙ rw (le-ltb n 9223372036854775808 h)

unflip : (k : ℕ) → negsuc 0 -ℤ negsuc k ≡ pos k
unflip k =
    let g : ltb (suc k) 1 ≡ false = le-ltb (suc k) 1 (omega arith) in
    let s : suc k - 1 ≡ k = omega arith in
    simp (g, s)

record Below (x : ℤ) : Type 0 where
  k : ℕ
  is : negsuc 0 -ℤ x ≡ pos k
  small : k < 2 ^ 63
  back : 18446744073709551615 - k ≡ unsigned_of x

below : (x : ℤ) → SFits w64 x → lt_z x (pos 0) ≡ true → Below x
unfolding unsigned_of
below (pos n) f h = absurd (let u : n < 0 = ltb-true n 0 h in omega arith)
below (negsuc n) f h = record { k = n; is = unflip n; small = f.sfits; back = refl }

module _ (x : ℤ) (s : SFits w64 x) where
  module _ (h : lt_z (to_z w64 (of_z w64 x)) (pos 0) ≡ true) where
    b : Below x
    b = below x s (rw (to_z-of_z w64 x s) at h)

    there : negsuc 0 -ℤ to_z w64 (of_z w64 x) ≡ pos b.k
    there = rw (to_z-of_z w64 x s) b.is

    pub sub-fits : SFits w64 (negsuc 0 -ℤ to_z w64 (of_z w64 x))
    sub-fits = rw there (record { sfits = b.small })

    again : to_z w64 (of_z w64 (negsuc 0 -ℤ to_z w64 (of_z w64 x))) ≡ pos b.k
    again = to_z-of_z w64 (negsuc 0 -ℤ to_z w64 (of_z w64 x)) sub-fits ∙ there

    pub sub-pos : T (non_neg (to_z w64 (of_z w64 (negsuc 0 -ℤ to_z w64 (of_z w64 x)))))
    sub-pos = rw again tt

    pub sub-fits-u : Fits w64 (nat_abs (to_z w64 (of_z w64 (negsuc 0 -ℤ to_z w64 (of_z w64 x)))))
    sub-fits-u = rw again (record { fits = omega (arith, b.small) })

    pub sub-le : nat_abs (to_z w64 (of_z w64 (negsuc 0 -ℤ to_z w64 (of_z w64 x)))) ≤ 18446744073709551615
    sub-le = rw again (omega (arith, b.small))

    pub neg-back : 18446744073709551615 - nat_abs (to_z w64 (of_z w64 (negsuc 0 -ℤ to_z w64 (of_z w64 x)))) ≡ unsigned_of x
    neg-back = rw again b.back

  module _ (h : lt_z (to_z w64 (of_z w64 x)) (pos 0) ≡ false) where
    at_least : (y : ℤ) → lt_z y (pos 0) ≡ false → T (non_neg y)
    at_least (pos n) g = tt
    at_least (negsuc n) g = absurd (false≢true (sym g))

    pub pos-pos : T (non_neg (to_z w64 (of_z w64 x)))
    pos-pos = at_least (to_z w64 (of_z w64 x)) h

    pub pos-back : nat_abs (to_z w64 (of_z w64 x)) ≡ unsigned_of x
    unfolding unsigned_of
    pos-back = rw (to_z-of_z w64 x s) (same x (rw (to_z-of_z w64 x s) at h))
      where
        same : (y : ℤ) → lt_z y (pos 0) ≡ false → nat_abs y ≡ unsigned_of y
        same (pos n) g = refl
        same (negsuc n) g = absurd (false≢true (sym g))

    pub pos-fits : Fits w64 (nat_abs (to_z w64 (of_z w64 x)))
    pos-fits = rw (to_z-of_z w64 x s) (record { fits = size x s.sfits })
      where
        size : (y : ℤ) → mag y < 2 ^ 63 → nat_abs y < 2 ^ 64
        size (pos n) g = omega arith
        size (negsuc n) g = omega arith
