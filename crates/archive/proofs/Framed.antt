-- What a record gave has the record's bytes and fits its fields, and no record ends past the end of the bytes.
use mathlib.Core.Path.{◌≡◌, ◌∙◌, ap}
use mathlib.Core.Bool.{cond, ◌&&◌}
use mathlib.Core.List.{List, [], append-nil}
use mathlib.Core.Option.{Option, none, some}
use Prim.Native.Nat.{ℕ, ◌≤◌, ◌+◌, ◌-◌}
use native.Mathlib.Nat.{sub_self, sub-zero}
use native.Mathlib.Omega.{arith}
use lib.Dec.{leb, eqb}
use lib.ListN.{length, take, drop, get_or}
use lib.Seq.{take_all}
use borrow.Author.Tests.{leb-true, eqb-true}
use Rattle.lists.proofs.Tests.{both}
use Rattle.archive.specs.Bytes.{be}
use Rattle.archive.specs.Reader.{broken, got, Reader, and_then, ◌>>=◌, byte, number, bytes, whole, body, record_of, optionally}
use Rattle.archive.specs.Encode.{record_bytes}
use Rattle.archive.specs.Fits.{Short}
use Rattle.archive_bytes.proofs.Numbers.{AllBytes}
use Rattle.archive.proofs.Back.{Back, Said, and_then-got, cond-got, tested-got, then-back, end_back, number-back, byte-back, bytes_back}

-- ── a body ───────────────────────────────────────────────────────────────────────────────────

body_back : (k : ℕ) → Back (body k) (Said (record_bytes k) (λ b. AllBytes b × Short b))
unfolding body record_bytes
body_back k =
    then-back (number 4) _ (number-back 4) (λ n. then-back byte _ byte-back (λ v. then-back byte _ byte-back (λ m. then-back (bytes (n - 2)) _ (bytes_back (n - 2))
    (λ b. end_back (λ l p. (leb 2 n && (eqb v 1 && eqb m k)) && leb p (length l)) b (λ l p t kb km kv kn.
    let u = (both (leb 2 n && (eqb v 1 && eqb m k)) (leb p (length l)) t).0 in
    let a = leb-true 2 n (both (leb 2 n) (eqb v 1 && eqb m k) u).0 in
    let c = both (eqb v 1) (eqb m k) (both (leb 2 n) (eqb v 1 && eqb m k) u).1 in
    let z : 2 + length b ≡ n = omega (arith, kb.0) in
    record { bytes = rw (z, eqb-true v 1 c.0, eqb-true m k c.1, append-nil b); fits = (kb.1, rw z kn) })))))

body-inside : (k : ℕ) (l : List ℕ) (p : ℕ) (b : List ℕ) (q : ℕ) → body k l p ≡ got b q → q ≤ length l
unfolding body ◌>>=◌
body-inside k l p b q e =
    let n = be 4 l p in
    let m = p + 4 + 1 + 1 + (n - 2) in
    let t = leb 2 n && (eqb (get_or l (p + 4) 0) 1 && eqb (get_or l (p + 4 + 1) 0) k) in
    tested-got (t && leb m (length l)) (got (take (n - 2) (drop (p + 4 + 1 + 1) l)) m) e (λ u d.
    let z : m ≡ q = cc in
    omega (arith, leb-true m (length l) (both t (leb m (length l)) u).1))

-- what was made of a whole body
whole-said : {A : Type 0} (r : Reader A) {enc : A → List ℕ} {F : A → Type 0} → Back r (Said enc F)
    → (b : List ℕ) → AllBytes b → (x : A) (q : ℕ) → whole r b ≡ got x q → Said enc F x b
unfolding whole
whole-said r d b h x q e = and_then-got (r b 0) (λ x q. cond (eqb (length b) q) (got x q) broken) e (λ y m i c. tested-got (eqb (length b) m) (got y m) c (λ j g.
    let z = eqb-true (length b) m j in
    let a : y ≡ x = cc in
    rw (← a) (rw (sub-zero m, take_all m b (omega arith)) at (d.back b h 0 y m i (omega arith)))))

-- ── records ──────────────────────────────────────────────────────────────────────────────────

module _ {A : Type 0} (k : ℕ) (r : Reader A) (l : List ℕ) (p : ℕ) {q : ℕ} {C : Type 0} where
  -- a record gave an answer, so its body was there and the reader made that answer of it
  record-got : {x : A} → record_of k r l p ≡ got x q → ((b : List ℕ) (n : ℕ) → body k l p ≡ got b q → whole r b ≡ got x n → C) → C
  unfolding record_of ◌>>=◌
  record-got {x} e c = and_then-got (body k l p) (λ b m. and_then (whole r b) (λ x n. got x m)) e (λ b m i d. and_then-got (whole r b) (λ x n. got x m) d (λ y n j g.
      let u : body k l p ≡ got b q = cc in
      let v : whole r b ≡ got x n = cc in
      c b n u v))

  -- an optional record gave an answer, so it was there or nothing was read
  optionally-got : {o : Option A} → optionally k r l p ≡ got o q → ((x : A) → record_of k r l p ≡ got x q → some x ≡ o → C) → (p ≡ q → none ≡ o → C) → C
  unfolding optionally
  optionally-got {o} e c d = cond-got (eqb (get_or l (p + 5) 0) k) (and_then (record_of k r l p) (λ x q. got (some x) q)) (got none p) e
      (λ t f. and_then-got (record_of k r l p) (λ x q. got (some x) q) f (λ x m i g.
      let u : record_of k r l p ≡ got x q = cc in
      let v : some x ≡ o = cc in
      c x u v))
      (λ t f.
      let u : p ≡ q = cc in
      let v : none ≡ o = cc in
      d u v)

pub record-back : {A : Type 0} (k : ℕ) (r : Reader A) {enc : A → List ℕ} {F : A → Type 0}
    → Back r (Said enc F) → Back (record_of k r) (Said (λ x. record_bytes k (enc x)) (λ x. F x × Short (enc x)))
record-back k r d = record {
  onward = λ l p x q e. record-got k r l p e (λ b n i j. (body_back k).onward l p b q i);
  back = λ l h p x q e g. record-got k r l p e (λ b n i j.
      let u = (body_back k).back l h p b q i g in
      let s = whole-said r d b u.fits.0 x n j in
      record { bytes = ap (record_bytes k) s.bytes ∙ u.bytes; fits = (s.fits, rw s.bytes u.fits.1) });
}

pub optionally-back : {A : Type 0} (k : ℕ) (r : Reader A) {S : Option A → List ℕ → Type 0} → Back (record_of k r) (λ x e. S (some x) e) → S none [] → Back (optionally k r) S
optionally-back k r d s = record {
  onward = λ l p o q e. optionally-got k r l p e (λ x i j. d.onward l p x q i) (λ u v. omega arith);
  back = λ l h p o q e g. optionally-got k r l p e (λ x i j. rw (← j) (d.back l h p x q i g)) (λ u v. rw (← u, ← v, sub_self p) s);
}

-- ── no record ends past the end ──────────────────────────────────────────────────────────────

pub record Inside {A : Type 0} (r : Reader A) : Type 0 where
  pub inside : (l : List ℕ) (p : ℕ) (x : A) (q : ℕ) → r l p ≡ got x q → p ≤ length l → q ≤ length l

pub then-inside : {A B : Type 0} (r : Reader A) (f : A → Reader B) → Inside r → ((x : A) → Inside (f x)) → Inside (◌>>=◌ r f)
unfolding ◌>>=◌
then-inside r f a b = record { inside = λ l p y q e h. and_then-got (r l p) (λ x m. f x l m) e (λ x m d k. (b x).inside l m y q k (a.inside l p x m d h)) }

module _ {A : Type 0} (k : ℕ) (r : Reader A) where
  pub record-inside : Inside (record_of k r)
  record-inside = record { inside = λ l p x q e h. record-got k r l p e (λ b n i j. body-inside k l p b q i) }

  pub optionally-inside : Inside (optionally k r)
  optionally-inside = record { inside = λ l p o q e h. optionally-got k r l p e (λ x i j. record-inside.inside l p x q i h) (λ u v. omega arith) }
