-- What a reader gave has the bytes that it was read from, and fits its fields: the law of each reader of bytes, and of readers one after the other.
use mathlib.Core.Path.{◌≡◌, refl, sym, ◌∙◌, ap}
use mathlib.Core.Bool.{and-true, Bool, true, false, cond, ◌&&◌}
use mathlib.Core.List.{List, [], ◌∷◌, ◌++◌}
use Prim.Native.Nat.{ℕ, zero, suc, ◌≤◌, ◌<◌, ◌+◌, ◌-◌, ◌*◌, ◌^◌}
use native.Mathlib.Nat.{add-zero, zero-add, suc-mul, zero-mul, add_comm, add-sub_cancel_left}
use native.Mathlib.Omega.{arith}
use lib.Dec.{leb}
use lib.ListN.{length, take, drop, get_or, length-drop}
use lib.Seq.{take-add, drop-drop, length-take-le, take-suc, get_or-drop}
use Rattle.lists.specs.Lists.{Each, flat, all}
use Rattle.lists.proofs.Tests.{both}
use Rattle.archive.specs.Bytes.{be, bytes_of, several}
use Rattle.archive.specs.Reader.{Parsed, broken, got, Reader, and_then, ◌>>=◌, byte, number, bytes, table, numbers, checked, ahead}
use Rattle.archive.specs.Encode.{column_bytes}
use Rattle.archive_bytes.proofs.Numbers.{AllBytes, be-small, bytes_of-be, get_or-small}

-- the bytes from place p up to place q
abbrev pub span : ℕ → ℕ → List ℕ → List ℕ
span p q l = take (q - p) (drop p l)

-- a reader goes on, and what it gave and the bytes that it read satisfy R, if they are there
pub record Back {A : Type 0} (r : Reader A) (R : A → List ℕ → Type 0) : Type 0 where
  pub onward : (l : List ℕ) (p : ℕ) (x : A) (q : ℕ) → r l p ≡ got x q → p ≤ q
  pub back : (l : List ℕ) → AllBytes l → (p : ℕ) (x : A) (q : ℕ) → r l p ≡ got x q → q ≤ length l → R x (span p q l)

-- e are the bytes of x, and x fits
pub record Said {A : Type 0} (enc : A → List ℕ) (F : A → Type 0) (x : A) (e : List ℕ) : Type 0 where
  pub bytes : enc x ≡ e
  pub fits : F x

-- ── an answer taken apart ────────────────────────────────────────────────────────────────────

broken-is-not-got : {A : Type 0} {x : A} {q : ℕ} → broken ≡ got x q → ⊥
broken-is-not-got e = let z : ◌≡◌ {A = ℕ} 0 1 = cc in omega arith

module _ {B C : Type 0} {y : B} {q : ℕ} where
  -- two readers gave an answer, so each of them gave one
  pub and_then-got : {A : Type 0} (o : Parsed A) (k : A → ℕ → Parsed B) → and_then o k ≡ got y q → ((x : A) (m : ℕ) → o ≡ got x m → k x m ≡ got y q → C) → C
  and_then-got broken k e c = absurd (broken-is-not-got e)
  and_then-got (got x m) k e c = c x m refl e

  -- one of two answers was given
  pub cond-got : (t : Bool) (a b : Parsed B) → cond t a b ≡ got y q → (t ≡ true → a ≡ got y q → C) → (t ≡ false → b ≡ got y q → C) → C
  cond-got true a b e c d = c refl e
  cond-got false a b e c d = d refl e

  -- an answer that depends on a test was given, so the test holds
  pub tested-got : (t : Bool) (a : Parsed B) → cond t a broken ≡ got y q → (t ≡ true → a ≡ got y q → C) → C
  tested-got t a e c = cond-got t a broken e c (λ i d. absurd (broken-is-not-got d))

-- ── one after the other ──────────────────────────────────────────────────────────────────────

span-join : (l : List ℕ) (p m q : ℕ) → p ≤ m → m ≤ q → span p q l ≡ span p m l ++ span m q l
span-join l p m q h k =
    let a : q - p ≡ (m - p) + (q - m) = omega arith in
    let b : p + (m - p) ≡ m = omega arith in
    rw (a, take-add (m - p) (q - m) (drop p l), drop-drop (m - p) p l, b)

module _ {A B : Type 0} (r : Reader A) (f : A → Reader B) {enc : A → List ℕ} {F : A → Type 0} {S : B → List ℕ → Type 0} where
  pub then-back : Back r (Said enc F) → ((x : A) → Back (f x) (λ y g. F x → S y (enc x ++ g))) → Back (◌>>=◌ r f) S
  unfolding ◌>>=◌
  then-back a b = record {
    onward = λ l p y q e. and_then-got (r l p) (λ x m. f x l m) e (λ x m d k. omega (arith, a.onward l p x m d, (b x).onward l m y q k));
    back = λ l h p y q e i. and_then-got (r l p) (λ x m. f x l m) e (λ x m d k.
        let j = a.onward l p x m d in
        let u = (b x).onward l m y q k in
        let v : m ≤ length l = omega arith in
        let z = a.back l h p x m d v in
        rw (span-join l p m q j u, ← z.bytes) ((b x).back l h m y q k i z.fits));
  }

module _ {B : Type 0} {S : B → List ℕ → Type 0} where
  pub alike-back : (r s : Reader B) → ((l : List ℕ) (p : ℕ) → r l p ≡ s l p) → Back s S → Back r S
  alike-back r s f b = record { onward = λ l p x q e. b.onward l p x q (sym (f l p) ∙ e); back = λ l h p x q e i. b.back l h p x q (sym (f l p) ∙ e) i }

  pub weaker-back : {R : B → List ℕ → Type 0} (r : Reader B) → Back r R → ((x : B) (e : List ℕ) → R x e → S x e) → Back r S
  weaker-back r b f = record { onward = b.onward; back = λ l h p x q e i. f x (span p q l) (b.back l h p x q e i) }

-- ── numbers and bytes ────────────────────────────────────────────────────────────────────────

module _ {A : Type 0} (P : A → Type 0) where
  each_take : (n : ℕ) (l : List A) → Each P l → Each P (take n l)
  each_take zero l h = tt
  each_take (suc n) [] h = tt
  each_take (suc n) (x ∷ l) h = (h.0, each_take n l h.1)

  each-drop : (n : ℕ) (l : List A) → Each P l → Each P (drop n l)
  each-drop zero l h = h
  each-drop (suc n) [] h = tt
  each-drop (suc n) (x ∷ l) h = each-drop n l h.1

-- a reader of n bytes, with or without a test, from its answer at each place
module _ {A : Type 0} (n : ℕ) (t : List ℕ → ℕ → Bool) (f : List ℕ → ℕ → A) {R : A → List ℕ → Type 0} where
  leaf-back : ((l : List ℕ) → AllBytes l → (p : ℕ) → p + n ≤ length l → t l p ≡ true → R (f l p) (take n (drop p l))) → Back (λ l p. cond (t l p) (got (f l p) (p + n)) broken) R
  leaf-back s = record {
    onward = λ l p x q e. tested-got (t l p) (got (f l p) (p + n)) e (λ u d. let z : p + n ≡ q = cc in omega arith);
    back = λ l h p x q e i. tested-got (t l p) (got (f l p) (p + n)) e (λ u d.
        let a : f l p ≡ x = cc in
        let b : p + n ≡ q = cc in
        let j : p + n ≤ length l = omega arith in
        rw (← a, ← b, add-sub_cancel_left p n) (s l h p j u));
  }

-- the last word, with or without a test
pub end_back : {A : Type 0} {S : A → List ℕ → Type 0} (t : List ℕ → ℕ → Bool) (y : A) → ((l : List ℕ) (p : ℕ) → t l p ≡ true → S y []) → Back (λ l p. cond (t l p) (got y p) broken) S
end_back t y s = alike-back _ _ (λ l p. rw (add-zero p)) (leaf-back 0 t (λ l p. y) (λ l h p i u. s l p u))

pub number-back : (w : ℕ) → Back (number w) (Said (bytes_of w) (λ n. n < 256 ^ w))
number-back w = leaf-back w (λ l p. true) (λ l p. be w l p) (λ l h p i u. record { bytes = bytes_of-be l h p w i; fits = be-small l h p w })

pub byte-back : Back byte (Said (λ b. b ∷ []) (λ b. b < 256))
byte-back = leaf-back 1 (λ l p. true) (λ l p. get_or l p 0) (λ l h p i u. record {
  bytes = rw (take-suc (drop p l) 0 0 (rw (length-drop p l) (omega arith)), get_or-drop, add-zero p);
  fits = get_or-small l p h;
})

pub bytes_back : (n : ℕ) → Back (bytes n) (Said (λ b. b) (λ b. (length b ≡ n) × AllBytes b))
bytes_back n = leaf-back n (λ l p. true) (λ l p. take n (drop p l)) (λ l h p i u. record {
  bytes = refl;
  fits = (length-take-le n (drop p l) (rw (length-drop p l) (omega arith)), each_take _ n (drop p l) (each-drop _ p l h));
})

-- ── tables ───────────────────────────────────────────────────────────────────────────────────

pub length-several : {A : Type 0} (w : ℕ) (f : List ℕ → A) (n : ℕ) (l : List ℕ) → length (several w f n l) ≡ n
unfolding several
length-several w f zero l = refl
length-several w f (suc n) l = ap suc (length-several w f n (drop w l))

-- n things that fit
abbrev pub Things : {A : Type 0} → (A → Type 0) → ℕ → List A → Type 0
Things F n xs = (length xs ≡ n) × Each F xs

-- things of w bytes, each of which passes a test of a number that stands among its bytes
module _ {A : Type 0} (w : ℕ) (f : List ℕ → A) (g : List ℕ → ℕ) (t : ℕ → Bool) (enc : A → List ℕ) (F : A → Type 0)
    (one : (l : List ℕ) → AllBytes l → w ≤ length l → t (g l) ≡ true → Said enc F (f l) (take w l)) where
  several-back : (n : ℕ) (l : List ℕ) → AllBytes l → n * w ≤ length l → all t (several w g n l) ≡ true → Said (flat enc) (Each F) (several w f n l) (take (n * w) l)
  unfolding several all
  several-back zero l h k e = record { bytes = rw (zero-mul w); fits = tt }
  several-back (suc n) l h k e =
      let m : n * w + w ≤ length l = rw (suc-mul n w) at k in
      let u = both (t (g l)) (all t (several w g n (drop w l))) e in
      let a = one l h (omega arith) u.0 in
      let b = several-back n (drop w l) (each-drop _ w l h) (rw (length-drop w l) (omega arith)) u.1 in
      record { bytes = rw (suc-mul n w, add_comm (n * w) w, take-add w (n * w) l, a.bytes, b.bytes); fits = (a.fits, b.fits) }

  module _ (n : ℕ) where
    things_back : Back (λ l p. cond (leb (p + n * w) (length l) && all t (several w g n (drop p l))) (got (several w f n (drop p l)) (p + n * w)) broken) (Said (flat enc) (Things F n))
    things_back = leaf-back (n * w) (λ l p. leb (p + n * w) (length l) && all t (several w g n (drop p l))) (λ l p. several w f n (drop p l)) (λ l h p i u.
        let k : n * w ≤ length (drop p l) = rw (length-drop p l) (omega arith) in
        let a = several-back n (drop p l) (each-drop _ p l h) k (both (leb (p + n * w) (length l)) (all t (several w g n (drop p l))) u).1 in
        record { bytes = a.bytes; fits = (length-several w f n (drop p l), a.fits) })

    -- the reader of record 3: the numbers, then the things from the same place, then the test
    abbrev pub tested_table : Reader (List A)
    tested_table = ◌>>=◌ (ahead (table w g n)) (λ ns. ◌>>=◌ (table w f n) (λ xs. checked (all t ns) xs))

    pub tested_table-back : Back tested_table (Said (flat enc) (Things F n))
    unfolding ◌>>=◌ table
    tested_table-back = alike-back tested_table _ (λ l p. go l p (leb (p + n * w) (length l)) refl) things_back
      where
        go : (l : List ℕ) (p : ℕ) (b : Bool) → leb (p + n * w) (length l) ≡ b
            → tested_table l p ≡ cond (leb (p + n * w) (length l) && all t (several w g n (drop p l))) (got (several w f n (drop p l)) (p + n * w)) broken
        go l p true e = rw (e, e)
        go l p false e = rw e

-- things with no test
all_true : (xs : List ℕ) → all (λ x. true) xs ≡ true
unfolding all
all_true [] = refl
all_true (x ∷ xs) = all_true xs

module _ {A : Type 0} (w : ℕ) (f : List ℕ → A) {enc : A → List ℕ} {F : A → Type 0} where
  pub table-back : ((l : List ℕ) → AllBytes l → w ≤ length l → Said enc F (f l) (take w l)) → (n : ℕ) → Back (table w f n) (Said (flat enc) (Things F n))
  unfolding table
  table-back one n = alike-back _ _ (λ l p. rw (all_true (several w (λ l. 0) n (drop p l)), and-true)) (things_back w f (λ l. 0) (λ x. true) enc F (λ l h i u. one l h i) n)

pub numbers-back : (w n : ℕ) → Back (numbers w n) (Said (column_bytes w) (Things (λ x. x < 256 ^ w) n))
numbers-back w n = table-back w (λ l. be w l 0) (λ l h i. record { bytes = bytes_of-be l h 0 w (rw (zero-add w) i); fits = be-small l h 0 w }) n
