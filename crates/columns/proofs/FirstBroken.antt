-- Rules in order: where none of them refuses, no test of them holds, and the other way round.
use mathlib.Core.Path.{◌≡◌, refl, sym}
use mathlib.Core.Bool.{Bool, true, false, not}
use mathlib.Core.List.{List, [], ◌∷◌}
use mathlib.Core.Option.{Option, none, some, none-ne-some}
use Rattle.lists.specs.Lists.{Each}
use Rattle.columns.specs.Refusal.{refuse, first_of, first_in}
use Rattle.columns.specs.declared.refusal.Refusal.{Refusal}

pub each_none : (ts : List (Option Refusal)) → first_of ts ≡ none → Each (λ t. t ≡ none) ts
unfolding first_of
each_none [] e = tt
each_none (none ∷ ts) e = (refl, each_none ts e)
each_none (some r ∷ ts) e = absurd (none-ne-some r (sym e))

pub none_of : (ts : List (Option Refusal)) → Each (λ t. t ≡ none) ts → first_of ts ≡ none
unfolding first_of
none_of [] h = refl
none_of (t ∷ ts) h = rw h.0 (none_of ts h.1)

pub each-none-in : {A : Type 0} (rules : A → Option Refusal) (xs : List A) → first_in rules xs ≡ none → Each (λ x. rules x ≡ none) xs
unfolding first_in
each-none-in rules [] e = tt
each-none-in rules (x ∷ xs) e = let h = each_none (rules x ∷ first_in rules xs ∷ []) e in (h.0, each-none-in rules xs h.1.0)

pub none_in : {A : Type 0} (rules : A → Option Refusal) (xs : List A) → Each (λ x. rules x ≡ none) xs → first_in rules xs ≡ none
unfolding first_in
none_in rules [] h = refl
none_in rules (x ∷ xs) h = none_of (rules x ∷ first_in rules xs ∷ []) (h.0, (none_in rules xs h.1, tt))

-- ── one test ─────────────────────────────────────────────────────────────────────────────────

pub not-refused : (r : Refusal) (b : Bool) → refuse r b ≡ none → b ≡ false
not-refused r true e = absurd (none-ne-some r (sym e))
not-refused r false e = refl

pub passed : (r : Refusal) (b : Bool) → refuse r (not b) ≡ none → b ≡ true
passed r true e = refl
passed r false e = absurd (none-ne-some r (sym e))

pub fails : (r : Refusal) (b : Bool) → b ≡ false → refuse r b ≡ none
fails r b e = rw e

pub passes : (r : Refusal) (b : Bool) → b ≡ true → refuse r (not b) ≡ none
passes r b e = rw e
