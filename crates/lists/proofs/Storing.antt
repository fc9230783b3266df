-- A list written over another one piece after the other: `rest` is what is still to be written from place p on.
use mathlib.Core.Path.{◌≡◌, refl, sym, ◌∙◌, ap}
use mathlib.Core.List.{List, [], ◌++◌}
use Prim.Native.Nat.{ℕ, ◌+◌, ◌≤◌}
use native.Mathlib.Omega.{arith}
use lib.ListN.{length, length-append}
use lib.Seq.{sets, length-sets}
use Rattle.lists.proofs.Slices.{sets-append}

pub record Storing {A : Type 0} (was : List A) (at : ℕ) (whole out : List A) (p : ℕ) (rest : List A) : Type 0 where
  pub same : length out ≡ length was
  pub ends : sets was at whole ≡ sets out p rest
  pub next : at + length whole ≡ p + length rest

module _ {A : Type 0} where
  pub storing-begins : (was : List A) (at : ℕ) (whole : List A) → Storing was at whole was at whole
  storing-begins was at whole = record { same = refl; ends = refl; next = refl }

  module _ {was : List A} {at : ℕ} {whole out : List A} {p : ℕ} {rest : List A} (s : Storing was at whole out p rest) where
    pub stored-all : rest ≡ [] → out ≡ sets was at whole
    stored-all e = sym (s.ends ∙ ap (sets out p) e)

    pub stored_next : rest ≡ [] → p ≡ at + length whole
    stored_next e = omega (arith, s.next, ap length e)

    module _ (xs ys : List A) (e : rest ≡ xs ++ ys) where
      pub storing-room : at + length whole ≤ length was → p + length xs ≤ length out
      storing-room h = omega (arith, s.next, s.same, ap length e, length-append xs ys)

      pub storing-on : (now : List A) (q : ℕ) → now ≡ sets out p xs → q ≡ p + length xs → Storing was at whole now q ys
      storing-on now q f g = record {
        same = ap length f ∙ length-sets out p xs ∙ s.same;
        ends = s.ends ∙ ap (sets out p) e ∙ sets-append out p xs ys ∙ rw (← f, ← g);
        next = omega (arith, s.next, ap length e, length-append xs ys);
      }
