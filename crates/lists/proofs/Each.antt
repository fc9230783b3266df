-- A property that each element of a list has: how it passes to other lists, and from the list to its elements.
use mathlib.Core.Path.{◌≡◌, refl, sym, subst}
use mathlib.Core.List.Memᴰ
use mathlib.Core.List.{List, [], ◌∷◌, ◌++◌, map, Memᴰ}
use mathlib.Core.Logic.{◌⊎◌, inl, inr}
use mathlib.Core.Option.{some, none-ne-some}
use Prim.Native.Nat.{ℕ, zero, suc, ◌<◌}
use native.Mathlib.Nat.{not-suc-le-zero, le_of_suc-le-suc}
use lib.ListN.{length, get_or, get_elem?}
use Rattle.lists.specs.Lists.{flat, Each}

module _ {A : Type 0} (P : A → Type 0) where
  pub each_append : (s t : List A) → Each P s → Each P t → Each P (s ++ t)
  each_append [] t h g = g
  each_append (x ∷ xs) t h g = (h.0, each_append xs t h.1 g)

  pub each-flat : {B : Type 0} (f : B → List A) (ys : List B) → Each (λ y. Each P (f y)) ys → Each P (flat f ys)
  each-flat f [] h = tt
  each-flat f (y ∷ ys) h = each_append (f y) (flat f ys) h.0 (each-flat f ys h.1)

  pub each_map : {B : Type 0} (f : B → A) (ys : List B) → Each (λ y. P (f y)) ys → Each P (map f ys)
  each_map f [] h = tt
  each_map f (y ∷ ys) h = (h.0, each_map f ys h.1)

  pub each-imp : (Q : A → Type 0) (xs : List A) → ((x : A) → P x → Q x) → Each P xs → Each Q xs
  each-imp Q [] f h = tt
  each-imp Q (x ∷ xs) f h = (f x h.0, each-imp Q xs f h.1)

  pub each_all : ((x : A) → P x) → (xs : List A) → Each P xs
  each_all f [] = tt
  each_all f (x ∷ xs) = (f x, each_all f xs)

  pub each_both : (Q : A → Type 0) (xs : List A) → Each P xs → Each Q xs → Each (λ x. P x × Q x) xs
  each_both Q [] h g = tt
  each_both Q (x ∷ xs) h g = ((h.0, g.0), each_both Q xs h.1 g.1)

  -- ── from the list to an element ──────────────────────────────────────────────────────────────

  pub each-mem : (xs : List A) (x : A) → Each P xs → Memᴰ x xs → P x
  each-mem [] x h m = absurd (Memᴰ.not-nil m)
  each-mem (y ∷ ys) x h m = go (Memᴰ.cases_cons m) (λ m. each-mem ys x h.1 m)
    where
      go : (x ≡ y) ⊎ Memᴰ x ys → (Memᴰ x ys → P x) → P x
      go (inl e) ih = subst P (sym e) h.0
      go (inr m) ih = ih m

  pub mem-each : (xs : List A) → ((x : A) → Memᴰ x xs → P x) → Each P xs
  mem-each [] h = tt
  mem-each (x ∷ xs) h = (h x (Memᴰ.head refl), mem-each xs (λ y m. h y (Memᴰ.tail m)))

  pub each-get : (xs : List A) (i : ℕ) (x : A) → Each P xs → get_elem? xs i ≡ some x → P x
  each-get [] i x h g = absurd (none-ne-some x g)
  each-get (y ∷ ys) zero x h g = let e : x ≡ y = cc in subst P (sym e) h.0
  each-get (y ∷ ys) (suc i) x h g = each-get ys i x h.1 g

  pub each-get_or : (xs : List A) (i : ℕ) (d : A) → Each P xs → i < length xs → P (get_or xs i d)
  each-get_or [] i d h l = absurd (not-suc-le-zero l)
  each-get_or (x ∷ xs) zero d h l = h.0
  each-get_or (x ∷ xs) (suc i) d h l = each-get_or xs i d h.1 (le_of_suc-le-suc l)
