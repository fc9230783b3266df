-- Columns of numbers as words: one turn of each loop that writes one.
use mathlib.Core.Path.{◌≡◌, refl, sym, ◌∙◌}
use mathlib.Core.List.{List, [], ◌∷◌, ◌++◌, map}
use Prim.Native.Nat.{ℕ, ◌+◌, ◌*◌, ◌≤◌, ◌<◌}
use native.Mathlib.Numerals.{add-one}
use native.Mathlib.Omega.{arith}
use lib.IntN.{ℤ, pos}
use lib.ListN.{length, get_or, drop, drop_of_length-le, length-append}
use lib.Seq.{sets, drop-cons}
use mir.Syntax.{w64}
use mir.Val.{SFits, to_z, of_z}
use mir.ValLaws.{to_z-of_z}
use Rattle.lists.proofs.Slices.{sets-append}
use Rattle.cleaning.specs.Lines.{signed}
use Rattle.run_text.specs.numbers.Wrote.{Wrote}
use Rattle.run_text.specs.lines.Parts.{spaced}

-- a text from `at` on is written as far as p, and the rest of it is left
pub record Going (text was : List ℕ) (at : ℕ) (is : List ℕ) (p : ℕ) (rest : List ℕ) : Type 0 where
  pub stored : sets was at text ≡ sets is p rest
  pub next : at + length text ≡ p + length rest

pub begin : (text was : List ℕ) (at : ℕ) → Going text was at was at text
begin text was at = record { stored = refl; next = refl }

module _ {A : Type 0} (f : A → List ℕ) (xs : List A) (i : ℕ) {was is : List ℕ} {at p : ℕ} (g : Going (spaced (map f xs)) was at is p (spaced (map f (drop i xs)))) where
  pub turn : {k : List ℕ} {r n : ℕ} (d : A) → i < length xs → Wrote (32 ∷ f (get_or xs i d)) n is p k r → Going (spaced (map f xs)) was at k r (spaced (map f (drop (i + 1) xs)))
  turn {k} {r} d h w =
      let word : List ℕ = 32 ∷ f (get_or xs i d) in
      let rest : List ℕ = spaced (map f (drop (i + 1) xs)) in
      let e : spaced (map f (drop i xs)) ≡ word ++ rest = rw (drop-cons xs i d h, add-one) in
      let q = rw e at g.next in
      record {
        stored = rw e at g.stored ∙ sets-append is p word rest ∙ rw (w.next, w.stored);
        next = omega (arith, q, length-append word rest, w.next);
      }

  pub ended : length xs ≤ i → i ≤ length xs → p ≤ at + 21 * i → Wrote (spaced (map f xs)) (21 * length xs) was at is p
  ended h j k =
      let e : drop i xs ≡ [] = drop_of_length-le xs {i = i} h in
      let n = rw e at g.next in
      record { stored = sym (rw e at g.stored); next = omega (arith, n); short = omega (arith, n) }

-- a signed number, as it is read back
pub turn_signed : (ds : List ℤ) (i : ℕ) {was is k : List ℕ} {at p r n : ℕ} → Going (spaced (map signed ds)) was at is p (spaced (map signed (drop i ds))) → SFits w64 (get_or ds i (pos 0))
    → i < length ds → Wrote (32 ∷ signed (to_z w64 (of_z w64 (get_or ds i (pos 0))))) n is p k r → Going (spaced (map signed ds)) was at k r (spaced (map signed (drop (i + 1) ds)))
turn_signed ds i g s h w = turn signed ds i g (pos 0) h (rw (to_z-of_z w64 (get_or ds i (pos 0)) s) at w)
