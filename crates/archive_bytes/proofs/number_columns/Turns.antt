-- Columns in lent bytes: one turn of each loop that loads or stores one, and whether there is room.
use mathlib.Core.Path.{◌≡◌, refl, sym, ◌∙◌}
use mathlib.Core.Bool.{Bool, true, false}
use mathlib.Core.List.{List, map}
use Prim.Native.Nat.{ℕ, suc, ◌≤◌, ◌<◌, ◌+◌, ◌-◌, ◌*◌, ◌/◌}
use native.Mathlib.Nat.{add-zero, add-suc, suc-mul, le-div_iff_mul-le}
use native.Mathlib.Numerals.{add-one}
use native.Mathlib.Omega.{arith}
use lib.Dec.{leb}
use lib.ListN.{length, get_or, set, drop, drop_of_length-le}
use lib.Seq.{sets, slice, slice-cons, drop-cons}
use borrow.Author.Tests.{lt-leb, leb-true, leb-false}
use Rattle.lists.specs.Lists.{flat}
use Rattle.lists.proofs.Slices.{slice-none, sets-append}
use Rattle.archive_bytes.specs.Bytes.{be, bytes_of, column}
use Rattle.archive_bytes.proofs.Numbers.{length-bytes_of}
use Rattle.archive_bytes.proofs.Several.{be-front, several-none, several-cons}

-- ── loading and storing ──────────────────────────────────────────────────────────────────────

-- with one thing less to come, and w bytes taken, the others still fit
pub still-fits : {v : ℕ} (w n i p len : ℕ) → i < n → p + (n - i) * w ≤ len → v ≡ w → p + v + (n - (i + 1)) * w ≤ len
still-fits w n i p len h k e =
    let z : n - i ≡ suc (n - (i + 1)) = omega arith in
    let m : p + (suc (n - (i + 1))) * w ≤ len = rw (← z) k in
    rw e (omega (arith, suc-mul (n - (i + 1)) w, m))

module _ {A : Type 0} (w n i : ℕ) (l : List ℕ) (p : ℕ) (number_of : ℕ → A) {t : List A} (out : List A) (e : t ≡ sets out i (map number_of (column w (n - i) l p))) where
  pub all-loaded : n ≤ i → out ≡ t
  all-loaded h = rw (e, several-none w (λ l. be w l 0) n i l p h)

  pub one-loaded : {v : ℕ} {x : A} → i < n → x ≡ number_of (be w l p) → v ≡ w → t ≡ sets (set out i x) (i + 1) (map number_of (column w (n - (i + 1)) l (p + v)))
  one-loaded h f g = rw (e, several-cons w (λ l. be w l 0) n i l p h, be-front w l p, f, g, add-one)

module _ {A : Type 0} (w : ℕ) (bits_of : A → ℕ) {t : List ℕ} (xs : List A) (i to p : ℕ) (out : List ℕ)
    (e : t ≡ sets out p (flat (bytes_of w) (map bits_of (slice i to xs)))) where
  pub all-stored : to ≤ i → out ≡ t
  all-stored h = rw (e, slice-none i to xs h)

  pub one-stored : {k : List ℕ} {v : ℕ} {x : A} → i < to → to ≤ length xs → x ≡ get_or xs i x → k ≡ sets out p (bytes_of w (bits_of x)) → v ≡ w
      → t ≡ sets k (p + v) (flat (bytes_of w) (map bits_of (slice (i + 1) to xs)))
  one-stored {x = x} h g d f y = rw (e, slice-cons i to xs x, sets-append, ← d, length-bytes_of w (bits_of x), f, y, add-one)

module _ {t : List ℕ} (l s : List ℕ) (at i : ℕ) (e : t ≡ sets l (at + i) (drop i s)) where
  pub all-copied : length s ≤ i → l ≡ t
  all-copied h = rw (e, drop_of_length-le s {i = i} h)

  pub one-copied : i < length s → t ≡ sets (set l (at + i) (get_or s i 0)) (at + (i + 1)) (drop (i + 1) s)
  one-copied h = rw (e, drop-cons s i 0, add-one, add-suc)

pub copy-starts : (l s : List ℕ) (at : ℕ) → sets l at s ≡ sets l (at + 0) (drop 0 s)
copy-starts l s at = rw (add-zero at)

-- ── whether there is room ────────────────────────────────────────────────────────────────────

-- a number of things against a quotient
module _ (len at n w : ℕ) where
  pub no_start : len < at → false ≡ leb (at + n * w) len
  no_start h = sym (lt-leb (at + n * w) len (omega arith))

  pub by-division : 0 < w → at ≤ len → leb n ((len - at) / w) ≡ leb (at + n * w) len
  by-division h k = go (leb n ((len - at) / w)) (leb (at + n * w) len) refl refl
    where
      go : (s t : Bool) → leb n ((len - at) / w) ≡ s → leb (at + n * w) len ≡ t → leb n ((len - at) / w) ≡ leb (at + n * w) len
      go true true e f = e ∙ sym f
      go false false e f = e ∙ sym f
      go true false e f =
          let q : n * w ≤ len - at = (le-div_iff_mul-le h).0 (leb-true n ((len - at) / w) e) in
          absurd (omega (arith, leb-false (at + n * w) len f))
      go false true e f =
          let a = leb-true (at + n * w) len f in
          let q : n * w ≤ len - at = omega arith in
          let r : n ≤ (len - at) / w = (le-div_iff_mul-le h).1 q in
          absurd (omega (arith, leb-false n ((len - at) / w) e))
