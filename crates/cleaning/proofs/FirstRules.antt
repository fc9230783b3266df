-- Rules in order: rules left out that are kept, rules put in another form, one rule of each of some records.
use mathlib.Core.Path.{◌≡◌, refl}
use mathlib.Core.Bool.{Bool, true, false, ◌&&◌, not}
use mathlib.Core.Logic.{inl, inr}
use mathlib.Core.List.{List, [], ◌∷◌, map}
use mathlib.Core.Option.{Option, none, some}
use Rattle.lists.specs.Lists.{all, Each}
use Rattle.lists.proofs.Tests.{tested}
use Rattle.columns.specs.Refusal.{refuse, first_of, first_in}
use Rattle.columns.specs.declared.refusal.Refusal.{Refusal}

-- a rule that is kept counts for nothing
pub skip : {t : Option Refusal} (ts us : List (Option Refusal)) → t ≡ none → first_of ts ≡ first_of us → first_of (t ∷ ts) ≡ first_of us
unfolding first_of
skip ts us e h = rw e h

-- the same rule, and after it the same first one
pub then : {t u : Option Refusal} (ts us : List (Option Refusal)) → t ≡ u → first_of ts ≡ first_of us → first_of (t ∷ ts) ≡ first_of (u ∷ us)
unfolding first_of
then {t} {u} ts us e h = rw e (go u)
  where
    go : (o : Option Refusal) → first_of (o ∷ ts) ≡ first_of (o ∷ us)
    go none = h
    go (some r) = refl

-- two tests with one refusal are one test
pub one-test : (r : Refusal) (a b : Bool) → first_of (refuse r (not a) ∷ refuse r (not b) ∷ []) ≡ first_of (refuse r (not (a && b)) ∷ [])
unfolding first_of
one-test r true b = refl
one-test r false b = refl

-- ── records ──────────────────────────────────────────────────────────────────────────────────

module _ {A : Type 0} where
  pub first-ext : (f g : A → Option Refusal) (xs : List A) → Each (λ x. f x ≡ g x) xs → first_in f xs ≡ first_in g xs
  unfolding first_in
  first-ext f g [] h = refl
  first-ext f g (x ∷ xs) h = rw (h.0, first-ext f g xs h.1)

  pub first-map : {B : Type 0} (f : B → Option Refusal) (g : A → B) (xs : List A) → first_in f (map g xs) ≡ first_in (λ x. f (g x)) xs
  unfolding first_in
  first-map f g [] = refl
  first-map f g (x ∷ xs) = rw (first-map f g xs)

  -- one test of each record is one test of all
  pub first-all : (r : Refusal) (p : A → Bool) (xs : List A) → first_in (λ x. refuse r (not (p x))) xs ≡ refuse r (not (all p xs))
  unfolding first_in first_of all
  first-all r p [] = refl
  first-all r p (x ∷ xs) = rw (first-all r p xs) (elim (tested (p x)) [
    | inl e ↦ rw e (elim (tested (all p xs)) [ inl f ↦ rw f | inr f ↦ rw f ])
    | inr e ↦ rw e
  ])
