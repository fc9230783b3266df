-- Texts one after the other in lent bytes.
use mathlib.Core.Path.{◌≡◌, refl, sym, ◌∙◌, ap}
use mathlib.Core.List.{List, [], ◌∷◌, ◌++◌}
use Prim.Native.Nat.{ℕ, ◌+◌, ◌-◌, ◌/◌, ◌%◌, ◌≤◌, ◌<◌}
use native.Mathlib.Omega.{arith}
use lib.IntN.{ℤ}
use lib.ListN.{length, length-append}
use lib.Seq.{length-sets}
use mir.Syntax.{w64}
use mir.Val.{Fits, SFits, to_z, of_z}
use Rattle.lists.proofs.Slices.{sets-append}
use Rattle.archive_bytes.specs.Bytes.{unsigned_of}
use Rattle.cleaning.specs.Lines.{decimal, signed}
use Rattle.run_text.proofs.numbers.Decimals.{decimal-one, decimal-more, decimal-short, decimal-size, signed-plain, signed-minus}
use Rattle.run_text.specs.numbers.Wrote.{Wrote}

module _ {xs ys was now is : List ℕ} {a b at p r : ℕ} where
  -- two texts, the second where the first ends
  pub then : Wrote xs a was at now p → Wrote ys b now p is r → Wrote (xs ++ ys) (a + b) was at is r
  then v w = record {
    stored = w.stored ∙ rw (v.next, v.stored) (sym (sets-append was at xs ys));
    next = omega (arith, length-append xs ys, v.next, w.next);
    short = omega (arith, length-append xs ys, v.short, w.short);
  }

-- the same text by another name, in more room
pub renamed : {xs ys was is : List ℕ} {a b at r : ℕ} → Wrote xs a was at is r → xs ≡ ys → a ≤ b → Wrote ys b was at is r
renamed {b = b} w e h = record {
  stored = w.stored ∙ rw e;
  next = w.next ∙ rw e;
  short = rw (← e) (omega (arith, w.short));
}

-- ── the digits of a number ───────────────────────────────────────────────────────────────────

module _ (n : ℕ) (l : List ℕ) (at : ℕ) where
  module _ (h : n < 10) where
    pub one-room : at + length (decimal n) ≤ length l → at < length l
    one-room k = let z = rw (decimal-one n h) at k in omega arith

    pub one_written : {k : List ℕ} {b r : ℕ} → b ≡ 48 + n → Wrote (b ∷ []) 1 l at k r → Wrote (decimal n) (length (decimal n)) l at k r
    one_written e w = rw (decimal-one n h, ← e) w

  module _ (h : 10 ≤ n) where
    more-length : length (decimal n) ≡ length (decimal (n / 10)) + 1
    more-length = rw (decimal-more n h, length-append)

    pub front-room : at + length (decimal n) ≤ length l → at + length (decimal (n / 10)) ≤ length l
    front-room k = omega (arith, more-length)

    module _ {j : List ℕ} {p : ℕ} (w : Wrote (decimal (n / 10)) (length (decimal (n / 10))) l at j p) where
      pub last-room : at + length (decimal n) ≤ length l → p < length j
      last-room k = let z : length j ≡ length l = ap length w.stored ∙ simp length-sets in omega (arith, more-length, w.next)

      pub more-written : {k : List ℕ} {b r : ℕ} → b ≡ 48 + n % 10 → Wrote (b ∷ []) 1 j p k r → Wrote (decimal n) (length (decimal n)) l at k r
      more-written e v = renamed (then w (rw e at v)) (sym (decimal-more n h)) (omega (arith, more-length))

module _ (l : List ℕ) (at : ℕ) where
  module _ (n : ℕ) (f : Fits w64 n) where
    pub decimal-room : {m : ℕ} → at + 20 ≤ m → at + length (decimal n) ≤ m
    decimal-room h = omega (arith, decimal-size n f.fits)

    pub decimal-written : {k : List ℕ} {r : ℕ} → Wrote (decimal n) (length (decimal n)) l at k r → Wrote (decimal n) 20 l at k r
    decimal-written w = renamed w refl (decimal-size n f.fits)

  module _ (d : ℤ) (s : SFits w64 d) {n : ℕ} (e : n ≡ unsigned_of (to_z w64 (of_z w64 d))) where
    pub plain-written : {k : List ℕ} {r : ℕ} → n < 9223372036854775808 → Wrote (decimal n) 20 l at k r → Wrote (signed d) 20 l at k r
    plain-written h w = rw (signed-plain d s e h) w

    pub minus-written : {j k : List ℕ} {p r : ℕ} → 9223372036854775808 ≤ n → Wrote (45 ∷ []) 1 l at j p
        → Wrote (decimal (18446744073709551615 - n + 1)) (length (decimal (18446744073709551615 - n + 1))) j p k r → Wrote (signed d) 20 l at k r
    minus-written h v w =
        let m = 18446744073709551615 - n + 1 in
        renamed (then v w) (sym (signed-minus d s e h)) (omega (arith, decimal-short 18 m (omega arith)))

  pub minus-room : (n : ℕ) {j : List ℕ} {p : ℕ} → 9223372036854775808 ≤ n → Wrote (45 ∷ []) 1 l at j p → at + 20 ≤ length l
      → p + length (decimal (18446744073709551615 - n + 1)) ≤ length j
  minus-room n {j} h w k =
      let z : length j ≡ length l = ap length w.stored ∙ simp length-sets in
      omega (arith, w.next, decimal-short 18 (18446744073709551615 - n + 1) (omega arith))
