-- What a ruling tells, and one rule after another.
use Rattle.std.specs.Prelude.{Err, Ok, Result}
use mathlib.Core.Path.{◌≡◌, refl, ap}
use mathlib.Core.List.{[], ◌∷◌}
use mathlib.Core.Option.{Option, none, some}
use Prim.Native.Nat.{ℕ}
use native.Mathlib.Omega.{arith}
use Rattle.columns.specs.Refusal.{first_of}
use Rattle.columns.specs.Answers.{ruling}
use Rattle.columns.specs.declared.refusal.Refusal.{Refusal}

-- a ruling tells the broken rule
pub told : (o : Option Refusal) → {r : Result (Unit {0}) Refusal} → r ≡ ruling o → {x : Refusal} → r ≡ Err x → o ≡ some x
told none e f = absurd (let z : ◌≡◌ {A = ℕ} 0 1 = cc in omega arith)
told (some y) e {x} f = let z : y ≡ x = cc in ap some z

pub told-kept : (o : Option Refusal) → {r : Result (Unit {0}) Refusal} → r ≡ ruling o → r ≡ Ok tt → o ≡ none
told-kept none e f = refl
told-kept (some y) e f = absurd (let z : ◌≡◌ {A = ℕ} 0 1 = cc in omega arith)

pub last-rule : (o : Option Refusal) → first_of (o ∷ []) ≡ o
unfolding first_of
last-rule none = refl
last-rule (some x) = refl

module _ (a b : Option Refusal) {r : Result (Unit {0}) Refusal} (e : r ≡ ruling a) where
  pub stops-here : (x : Refusal) → r ≡ Err x → Err x ≡ ruling (first_of (a ∷ b ∷ []))
  unfolding first_of
  stops-here x f = rw (told a e f)

  pub goes_on : r ≡ Ok tt → {s : Result (Unit {0}) Refusal} → s ≡ ruling b → s ≡ ruling (first_of (a ∷ b ∷ []))
  unfolding first_of
  goes_on f g = rw (told-kept a e f, last-rule b) g
