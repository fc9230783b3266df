-- Document 01, "Cleaning", in `renumber_graph`'s own way: the new lists of all slots in order, each from those before it. Slot s has kind s % kinds,
-- and the list of kind k of the event of number p stands in slot kinds × (p − start) + k.
use Rattle.std.specs.Prelude.{cond, ℕ, ◌+◌, ◌-◌, ◌*◌, ◌%◌, ltb, eqb, length, get_or}
use mathlib.Core.List.{List, [], ◌∷◌, ◌++◌, foldl}
use Rattle.lists.specs.Lists.{add}
use Rattle.run_renumber.specs.Numbers.{numbers_from}

module _ (K start : ℕ) (flags numbers : List ℕ) where
  -- a parent more: itself before the start, its new number where it survives, its own new list of the same kind where it is erased
  unfoldable pub add_parent : ℕ → List (List ℕ) → List ℕ → ℕ → List ℕ
  add_parent kind lists acc p =
      cond (ltb p start) (add acc p)
      (cond (eqb (get_or flags (p - start) 0) 0) (add acc (get_or numbers (p - start) 0))
      (foldl add acc (get_or lists (K * (p - start) + kind) [])))

  -- the new list of a slot's parents
  unfoldable pub new_list : ℕ → List (List ℕ) → List ℕ → List ℕ
  new_list kind lists ps = foldl (add_parent kind lists) [] ps

  -- `lists` with the new lists of the slots that follow
  unfoldable pub new_lists_from : List (List ℕ) → List (List ℕ) → List (List ℕ)
  new_lists_from lists [] = lists
  new_lists_from lists (ps ∷ slots) = new_lists_from (lists ++ (new_list (length lists % K) lists ps ∷ [])) slots

-- the new lists of all slots
unfoldable pub new_lists : (K : ℕ) → ℕ → List ℕ → List (List ℕ) → List (List ℕ)
new_lists K start flags slots = new_lists_from K start flags (numbers_from start flags) [] slots
