-- Deltas as the machine makes them, and one turn of the loop that writes a slot's deltas.
use mathlib.Core.Path.{◌≡◌, refl, sym, ◌∙◌, ap}
use mathlib.Core.Bool.{true, ◌&&◌}
use mathlib.Core.List.{List, map}
use Prim.Native.Nat.{ℕ, zero, suc, ◌+◌, ◌-◌, ◌≤◌, ◌<◌}
use native.Mathlib.Numerals.{add-one}
use native.Mathlib.Omega.{arith}
use lib.IntN.{ℤ, pos, negsuc, ◌-ℤ◌}
use lib.ListN.{length, get_or, set}
use lib.Seq.{slice, sets, slice-cons}
use mir.Syntax.{w64}
use mir.Val.{SFits, to_z, of_z}
use mir.ValLaws.{to_z-of_z}
use borrow.Author.Tests.{ltb-true, leb-true}
use Rattle.lists.specs.Lists.{all}
use Rattle.lists.proofs.Tests.{both}
use Rattle.lists.proofs.Slices.{slice-none}
use Rattle.columns.specs.EdgeSet.{delta_of}
use Rattle.columns.specs.Building.{fits63}
use Rattle.columns_rules.specs.spans.Spanned.{spans_fit}
use Rattle.columns.proofs.Deltas.{delta-down, delta-up}
use Rattle.columns_rules.proofs.spans.SpanTurns.{span-down, span-up}

below : (m : ℕ) → negsuc 0 -ℤ pos m ≡ negsuc m
below zero = refl
below (suc m) = ap negsuc (omega arith)

module _ (event target : ℕ) (f : fits63 (delta_of event target) ≡ true) where
  module _ (h : target ≤ event) where
    pub down_fits : SFits w64 (pos (event - target))
    down_fits = record { sfits = ltb-true (event - target) 9223372036854775808 (span-down event target h ∙ f) }

    pub down_is : to_z w64 (event - target) ≡ delta_of event target
    down_is = to_z-of_z w64 (pos (event - target)) down_fits ∙ sym (delta-down event target h)

  module _ (h : event < target) where
    reach : target - event - 1 < 9223372036854775808
    reach = let z = leb-true (target - event) 9223372036854775808 (span-up event target h ∙ f) in omega arith

    pub up_fits : SFits w64 (pos (target - event - 1))
    up_fits = record { sfits = reach }

    back : to_z w64 (target - event - 1) ≡ pos (target - event - 1)
    back = to_z-of_z w64 (pos (target - event - 1)) up_fits

    past_fits : SFits w64 (negsuc (target - event - 1))
    past_fits = record { sfits = reach }

    pub up-sub : SFits w64 (negsuc 0 -ℤ to_z w64 (target - event - 1))
    up-sub = rw (back, below (target - event - 1)) past_fits

    pub up_is : to_z w64 (of_z w64 (negsuc 0 -ℤ to_z w64 (target - event - 1))) ≡ delta_of event target
    up_is = rw (back, below (target - event - 1)) (to_z-of_z w64 (negsuc (target - event - 1)) past_fits ∙ sym (delta-up event target h))

pub signed : (d : ℤ) → fits63 d ≡ true → SFits w64 d
unfolding fits63
signed (pos n) e = record { sfits = ltb-true n 9223372036854775808 e }
signed (negsuc n) e = record { sfits = ltb-true n 9223372036854775808 e }

-- ── a slot ───────────────────────────────────────────────────────────────────────────────────

module _ (event j b : ℕ) (l : List ℕ) (e : spans_fit event (slice j b l) ≡ true) (h : j < b) (k : b ≤ length l) where
  span-parts : (fits63 (delta_of event (get_or l j 0)) && spans_fit event (slice (suc j) b l)) ≡ true
  unfolding spans_fit all
  span-parts = rw (slice-cons j b l 0) at e

  pub span-this : fits63 (delta_of event (get_or l j 0)) ≡ true
  span-this = (both (fits63 (delta_of event (get_or l j 0))) (spans_fit event (slice (suc j) b l)) span-parts).0

  pub span_rest : spans_fit event (slice (j + 1) b l) ≡ true
  span_rest = rw add-one (both (fits63 (delta_of event (get_or l j 0))) (spans_fit event (slice (suc j) b l)) span-parts).1

module _ {t : List ℤ} (event j b base : ℕ) (l : List ℕ) (out : List ℤ) (e : t ≡ sets out (j - base) (map (delta_of event) (slice j b l))) where
  pub slot-written : b ≤ j → out ≡ t
  slot-written h = rw (e, slice-none j b l h)

  pub slot-more : (v : ℤ) → v ≡ delta_of event (get_or l j 0) → spans_fit event (slice j b l) ≡ true → (a : ℕ) → base ≤ a → a ≤ j → j < b → b ≤ length l
      → t ≡ sets (set out (j - base) (to_z w64 (of_z w64 v))) (j + 1 - base) (map (delta_of event) (slice (j + 1) b l))
  slot-more v f s a g i h k =
      let z : j + 1 - base ≡ suc (j - base) = omega arith in
      let w : to_z w64 (of_z w64 v) ≡ delta_of event (get_or l j 0) = rw f (to_z-of_z w64 (delta_of event (get_or l j 0)) (signed (delta_of event (get_or l j 0)) (span-this event j b l s h k))) in
      rw (e, slice-cons j b l 0, w, z, add-one)
