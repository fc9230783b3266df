-- The bytes that were written are a beginning of the lent ones.
use mathlib.Core.Path.{◌≡◌, sym, ap, ◌∙◌}
use mathlib.Core.List.{List, ◌++◌}
use Prim.Native.Nat.{ℕ, ◌≤◌}
use native.Mathlib.Nat.{zero-add}
use native.Mathlib.Omega.{arith}
use lib.ListN.{length, take, drop}
use lib.Seq.{sets-eq, length-take-le, take-append_seam, drop-append_seam}
use Rattle.io.specs.Counts.{IsPrefixLen}
use Rattle.run_text.specs.numbers.Wrote.{Wrote}

pub counts : (n : ℕ) (l : List ℕ) → n ≤ length l → IsPrefixLen n l
counts n l h = (h, sym (length-take-le n l h))

pub prefix : {text was is : List ℕ} {r : ℕ} → Wrote text 120 was 0 is r → length is ≡ 120 → r ≡ length (take r is)
prefix {is = is} {r = r} w l = (counts r is (omega (arith, w.next, w.short))).1

-- a text from the first byte on: up to the answer it stands there, and past it all is as it was
module _ {text was is : List ℕ} {r size : ℕ} (w : Wrote text size was 0 is r) (h : size ≤ length was) where
  made : is ≡ text ++ drop (length text) was
  made = w.stored ∙ sets-eq text was 0 (omega (arith, w.short)) ∙ ap (λ k. text ++ drop k was) (zero-add (length text))

  pub all-of : r ≡ length text
  all-of = omega (arith, w.next)

  pub front : take r is ≡ text
  front = ap (λ k. take k is) all-of ∙ ap (take (length text)) made ∙ take-append_seam text (drop (length text) was)

  pub behind : drop r is ≡ drop r was
  behind = ap (λ k. drop k is) all-of ∙ ap (drop (length text)) made ∙ drop-append_seam text (drop (length text) was) ∙ ap (λ k. drop k was) (sym all-of)
