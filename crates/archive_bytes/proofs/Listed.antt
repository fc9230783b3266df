-- The tests of document 01 on a list, and those that the library's iterators answer with: they are the same.
use Rattle.std.proofs.Common.{◌≡◌, refl, ap, Bool, cond, ◌&&◌, ◌||◌, List, [], ◌∷◌}
use Rattle.std.specs.List as library
use Rattle.lists.specs.Lists.{any, all, filter}

module _ {A : Type 0} (p : A → Bool) where
  pub any-listed : (l : List A) → library.list_any p l ≡ any p l
  unfolding any
  any-listed [] = refl
  any-listed (x ∷ l) = ap (λ b. p x || b) (any-listed l)

  pub all-listed : (l : List A) → library.list_all p l ≡ all p l
  unfolding all
  all-listed [] = refl
  all-listed (x ∷ l) = ap (λ b. p x && b) (all-listed l)

  pub filter-listed : (l : List A) → library.filter p l ≡ filter p l
  unfolding filter
  filter-listed [] = refl
  filter-listed (x ∷ l) = ap (λ r. cond (p x) (x ∷ r) r) (filter-listed l)
