-- How an answer by numbers follows from what a call answers.
use mathlib.Core.Bool.{Bool, true, false, cond}
use mathlib.Core.Path.{◌≡◌, ap, sym, ◌∙◌}
use Prim.Native.Nat.{ℕ}
use Rattle.columns.specs.Refusal.{number_of}
use Rattle.columns.specs.declared.refusal.Refusal.{Refusal}
use Rattle.ffi.specs.Numbers.{flag_at}

module _ {A B : Type 0} (f : A → B) where
  -- a call answers what is promised
  pub told : {r : B} (x y : A) → x ≡ y → r ≡ f x → r ≡ f y
  told x y e h = h ∙ ap f e

  -- in an arm of a match the answer is one of its variants
  pub told-arm : {r : B} (x y : A) → y ≡ x → r ≡ f x → r ≡ f y
  told-arm x y e h = h ∙ ap f (sym e)

  -- in a refused arm, where all but the refusal's number is fixed
  pub told-refused : (k : ℕ → B) (why : Refusal) {n : ℕ} (x y : A) → n ≡ number_of why → y ≡ x → k (number_of why) ≡ f x → k n ≡ f y
  told-refused k why x y h e p = ap k h ∙ p ∙ ap f (sym e)

-- what is chosen by a flag
module _ {A : Type 0} (x y : A) (n : ℕ) (b : Bool) (e : b ≡ flag_at n) where
  pub flag-set : b ≡ true → x ≡ cond (flag_at n) x y
  flag-set h = rw (← e, h)

  pub flag-unset : b ≡ false → y ≡ cond (flag_at n) x y
  flag-unset h = rw (← e, h)
