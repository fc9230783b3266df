-- Signed deltas as the machine has them: how far one reaches, and what it names, by whether it is below 0.
use mathlib.Core.Path.{◌≡◌, refl, sym, ◌∙◌, ap}
use mathlib.Core.Bool.{Bool, true, false, false≢true}
use Prim.Native.Nat.{ℕ, zero, suc, ◌+◌, ◌-◌, ◌<◌, ◌≤◌, ◌^◌}
use native.Mathlib.Omega.{arith}
use lib.Dec.{ltb, leb}
use lib.IntN.{ℤ, pos, negsuc, nat_abs}
use lib.Signed.{lt_z, nat_abs-le}
use mir.Syntax.{w64}
use mir.Val.{Fits, SFits, to_z, of_z}
use mir.ValLaws.{to_z-of_z}
use borrow.Author.Tests.{le-ltb, lt-ltb, le-leb, lt-leb, ltb-true, ltb-false, leb-true}
use Rattle.lists.proofs.Tests.{same_test}
use Rattle.columns.specs.EdgeSet.{is_number, to_number, target_of, allowed, sound}
use Rattle.columns.specs.Answers.{named}

-- ── how far a delta reaches ──────────────────────────────────────────────────────────────────

-- the machine reads a delta back from its bits
pub same-is : (x : ℤ) → SFits w64 x → nat_abs (to_z w64 (of_z w64 x)) ≡ nat_abs x
same-is x f = ap nat_abs (to_z-of_z w64 x f)

-- ── what a delta names ───────────────────────────────────────────────────────────────────────

up_named : (event : ℕ) (d : ℤ) → nat_abs d ≤ 2 ^ 63 → lt_z d (pos 0) ≡ true → leb event (2 ^ 64 - 1 - nat_abs d) ≡ named event d
unfolding named is_number
up_named event (pos n) s h = absurd (let u : n < 0 = ltb-true n 0 h in omega arith)
up_named event (negsuc n) s h =
    same_test (leb event (2 ^ 64 - 1 - suc n)) (ltb (event + suc n) (2 ^ 64))
    (λ e. lt-ltb (event + suc n) (2 ^ 64) (omega (arith, leb-true event (2 ^ 64 - 1 - suc n) e)))
    (λ e. le-leb event (2 ^ 64 - 1 - suc n) (omega (arith, ltb-true (event + suc n) (2 ^ 64) e)))

down-named : (event : ℕ) (d : ℤ) → event < 2 ^ 64 → lt_z d (pos 0) ≡ false → leb (nat_abs d) event ≡ named event d
unfolding named is_number
down-named event (pos zero) f h = rw (le-leb 0 event (omega arith), lt-ltb (event + 0) (2 ^ 64) (omega arith))
down-named event (pos (suc n)) f h = go (ltb event (suc n)) refl
  where
    go : (b : Bool) → ltb event (suc n) ≡ b → leb (suc n) event ≡ named event (pos (suc n))
    go true e = rw (e, lt-leb (suc n) event (ltb-true event (suc n) e))
    go false e =
        let k : suc n ≤ event = ltb-false event (suc n) e in
        rw (e, le-leb (suc n) event k, lt-ltb (event - suc n) (2 ^ 64) (omega arith))
down-named event (negsuc n) f h = absurd (false≢true (sym h))

up-target : (event : ℕ) (d : ℤ) → lt_z d (pos 0) ≡ true → event + nat_abs d ≡ target_of event d
unfolding target_of to_number
up-target event (pos n) h = absurd (let u : n < 0 = ltb-true n 0 h in omega arith)
up-target event (negsuc n) h = refl

down-target : (event : ℕ) (d : ℤ) → lt_z d (pos 0) ≡ false → nat_abs d ≤ event → event - nat_abs d ≡ target_of event d
unfolding target_of to_number
down-target event (pos zero) h k = omega arith
down-target event (pos (suc n)) h k = rw (le-ltb event (suc n) k)
down-target event (negsuc n) h k = absurd (false≢true (sym h))

-- a delta that names no number is not sound, and one that names one is by its side
module _ (set end event : ℕ) (d : ℤ) where
  no_number : named event d ≡ false → false ≡ sound set end event d
  unfolding sound named
  no_number e = rw e

  by_side : (target : ℕ) (r : Bool) → named event d ≡ true → target ≡ target_of event d → r ≡ allowed set end event target → r ≡ sound set end event d
  unfolding sound named
  by_side target r e k g = rw e (g ∙ ap (allowed set end event) k)

-- the same of a delta as the machine reads it back, and of how far it reaches as a call answers it
module _ (event : ℕ) (d : ℤ) (far : ℕ) (f : Fits w64 event) (s : SFits w64 d) (m : far ≡ nat_abs (to_z w64 (of_z w64 d))) where
  reach : far ≡ nat_abs d
  reach = m ∙ ap nat_abs (to_z-of_z w64 d s)

  near : nat_abs d ≤ 2 ^ 63
  near = nat_abs-le d s.sfits

  module _ (h : lt_z (to_z w64 (of_z w64 d)) (pos 0) ≡ true) where
    up : lt_z d (pos 0) ≡ true
    up = rw (to_z-of_z w64 d s) at h

    tells-up : leb event (18446744073709551615 - far) ≡ named event d
    tells-up = rw reach (up_named event d near up)

    pub stands_up : event + far ≡ target_of event d
    stands_up = rw reach (up-target event d up)

    pub fits-up : named event d ≡ true → Fits w64 (event + far)
    fits-up e =
        let k : event ≤ 2 ^ 64 - 1 - nat_abs d = leb-true event (2 ^ 64 - 1 - nat_abs d) (up_named event d near up ∙ e) in
        record { fits = omega (arith, reach, near) }

    pub sound_up : (set end : ℕ) (r : Bool) → event ≤ 18446744073709551615 - far → r ≡ allowed set end event (event + far) → r ≡ sound set end event d
    sound_up set end r k g = by_side set end event d (event + far) r (sym tells-up ∙ le-leb event (18446744073709551615 - far) k) stands_up g

    pub none_up : (set end : ℕ) → 18446744073709551615 - far < event → false ≡ sound set end event d
    none_up set end k = no_number set end event d (sym tells-up ∙ lt-leb event (18446744073709551615 - far) k)

  module _ (h : lt_z (to_z w64 (of_z w64 d)) (pos 0) ≡ false) where
    down : lt_z d (pos 0) ≡ false
    down = rw (to_z-of_z w64 d s) at h

    tells_down : leb far event ≡ named event d
    tells_down = rw reach (down-named event d f.fits down)

    module _ (e : named event d ≡ true) where
      pub within_down : far ≤ event
      within_down = rw reach (leb-true (nat_abs d) event (down-named event d f.fits down ∙ e))

      pub stands_down : event - far ≡ target_of event d
      stands_down = rw reach (down-target event d down (rw reach at within_down))

    pub sound_down : (set end : ℕ) (r : Bool) → far ≤ event → r ≡ allowed set end event (event - far) → r ≡ sound set end event d
    sound_down set end r k g = let e = sym tells_down ∙ le-leb far event k in by_side set end event d (event - far) r e (stands_down e) g

    pub none_down : (set end : ℕ) → event < far → false ≡ sound set end event d
    none_down set end k = no_number set end event d (sym tells_down ∙ lt-leb far event k)

-- ── the side of a set ────────────────────────────────────────────────────────────────────────

module _ (set end event target : ℕ) where
  pub forward-side : set ≡ 0 → ltb target event ≡ allowed set end event target
  unfolding allowed
  forward-side e = rw e

  pub reverse-low : set ≡ 1 → target ≤ event → false ≡ allowed set end event target
  unfolding allowed
  reverse-low e h = rw (e, le-ltb event target h)

  pub reverse-side : set ≡ 1 → event < target → ltb target end ≡ allowed set end event target
  unfolding allowed
  reverse-side e h = rw (e, lt-ltb event target h)

pub inbound-side : (set end event target : ℕ) → (set ≡ 0 → ⊥) → (set ≡ 1 → ⊥) → leb end target ≡ allowed set end event target
unfolding allowed
inbound-side zero end event target f g = absurd (f refl)
inbound-side (suc zero) end event target f g = absurd (g refl)
inbound-side (suc (suc set)) end event target f g = refl
