-- Numbers at one place of record after record: one turn of the loop that stores them, and its end.
use Rattle.std.proofs.Common.{◌≡◌, ℕ, suc, ◌+◌, ◌-◌, ◌*◌, ◌^◌, ◌<◌, ◌≤◌, List, ◌∷◌, length, get_or, drop, sym, ap, ◌∙◌, add-zero, suc-mul, add-mul, mul-zero, zero-mul, mul-suc, add-one, arith, get_or-drop}
use native.Mathlib.Nat.{sub-zero}
use lib.Seq.{sets}
use Rattle.lists.specs.Lists.{Each, flat}
use Rattle.lists.proofs.Storing.{Storing, storing-begins, stored-all, storing-on}
use Rattle.archive_bytes.specs.Bytes.{bytes_of, several}
use Rattle.archive_bytes.proofs.Numbers.{length-bytes_of}
use Rattle.archive_bytes.proofs.Several.{several-none, several-cons}

-- the last record's number is there, and so is each before it
pub number_in : (length' p i n width : ℕ) → p + n * width < length' + width → i < n → p + i * width < length'
number_in length' p i n width h k =
    let z : i + suc (n - (i + 1)) ≡ n = omega arith in
    let e : n * width ≡ i * width + ((n - (i + 1)) * width + width) = sym (ap (λ m. m * width) z) ∙ add-mul i (suc (n - (i + 1))) width ∙ ap (λ m. i * width + m) (suc-mul (n - (i + 1)) width) in
    omega (arith, e)

module _ (width n : ℕ) (l : List ℕ) (p : ℕ) where
  all_left : several width (λ l. get_or l 0 0) (n - 0) (drop (p + 0 * width) l) ≡ several width (λ l. get_or l 0 0) n (drop p l)
  all_left = rw (sub-zero n, zero-mul width, add-zero p)

  pub strides-begin : (k at : ℕ) (out : List ℕ) → Storing out at (flat (bytes_of k) (several width (λ l. get_or l 0 0) n (drop p l))) out (at + k * 0)
      (flat (bytes_of k) (several width (λ l. get_or l 0 0) (n - 0) (drop (p + 0 * width) l)))
  strides-begin k at out = rw (all_left, mul-zero k, add-zero at) (storing-begins out at (flat (bytes_of k) (several width (λ l. get_or l 0 0) n (drop p l))))

  pub halves-begin : Each (λ x. x < 2 ^ 32) (several width (λ l. get_or l 0 0) n (drop p l)) → Each (λ x. x < 2 ^ 32) (several width (λ l. get_or l 0 0) (n - 0) (drop (p + 0 * width) l))
  halves-begin h = rw all_left h

  module _ (i : ℕ) where
    next-left : i < n → several width (λ l. get_or l 0 0) (n - i) (drop (p + i * width) l) ≡ get_or l (p + i * width) 0 ∷ several width (λ l. get_or l 0 0) (n - (i + 1)) (drop (p + (i + 1) * width) l)
    next-left h =
        let z : p + i * width + width ≡ p + (i + 1) * width = rw (add-one i) (omega (arith, suc-mul i width)) in
        several-cons width (λ l. get_or l 0 0) n i l (p + i * width) h ∙ rw (get_or-drop (p + i * width) l 0 0, add-zero (p + i * width), z)

    module _ (h : i < n) (e : Each (λ x. x < 2 ^ 32) (several width (λ l. get_or l 0 0) (n - i) (drop (p + i * width) l))) where
      both_halves : (get_or l (p + i * width) 0 < 2 ^ 32) × Each (λ x. x < 2 ^ 32) (several width (λ l. get_or l 0 0) (n - (i + 1)) (drop (p + (i + 1) * width) l))
      both_halves = rw (next-left h) at e

      pub half : (v : ℕ) → v ≡ get_or l (p + i * width) 0 → v < 2 ^ 32
      half v d = rw d both_halves.0

      pub halves-on : Each (λ x. x < 2 ^ 32) (several width (λ l. get_or l 0 0) (n - (i + 1)) (drop (p + (i + 1) * width) l))
      halves-on = both_halves.1

    module _ (k : ℕ) {was whole out : List ℕ} {at : ℕ} (s : Storing was at whole out (at + k * i) (flat (bytes_of k) (several width (λ l. get_or l 0 0) (n - i) (drop (p + i * width) l)))) where
      pub strides-done : n ≤ i → out ≡ sets was at whole
      strides-done h = stored-all s (ap (flat (bytes_of k)) (several-none width (λ l. get_or l 0 0) n i l (p + i * width) h))

      pub strides-on : i < n → (now : List ℕ) (v : ℕ) → now ≡ sets out (at + k * i) (bytes_of k v) → v ≡ get_or l (p + i * width) 0
          → Storing was at whole now (at + k * (i + 1)) (flat (bytes_of k) (several width (λ l. get_or l 0 0) (n - (i + 1)) (drop (p + (i + 1) * width) l)))
      strides-on h now v d e =
          let z : at + k * (i + 1) ≡ at + k * i + length (bytes_of k (get_or l (p + i * width) 0)) = rw (add-one i, length-bytes_of k (get_or l (p + i * width) 0)) (omega (arith, mul-suc k i)) in
          storing-on s (bytes_of k (get_or l (p + i * width) 0)) (flat (bytes_of k) (several width (λ l. get_or l 0 0) (n - (i + 1)) (drop (p + (i + 1) * width) l)))
          (ap (flat (bytes_of k)) (next-left h)) now (at + k * (i + 1)) (rw e at d) z
