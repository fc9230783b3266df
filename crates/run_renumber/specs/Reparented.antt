-- Document 01, "Cleaning", added: a survivor is reparented when it names an erased parent in either list.
use Rattle.std.specs.Prelude.{Bool, false, cond, ◌&&◌, not, List, ℕ, ◌-◌, ◌*◌, ltb, eqb, length, get_or}
use Rattle.lists.specs.Lists.{any, filter, joined, part, up_from}

-- whether a parent is an erased event; numbers before the start are none
unfoldable pub is_erased : ℕ → List ℕ → ℕ → Bool
is_erased start flags p = cond (ltb p start) false (not (eqb (get_or flags (p - start) 0) 0))

module _ (K start : ℕ) (flags : List ℕ) where
  -- whether the i-th event survives and names an erased parent
  unfoldable pub is_reparented : List (List ℕ) → ℕ → Bool
  is_reparented slots i = eqb (get_or flags i 0) 0 && any (is_erased start flags) (joined (part (K * i) K slots))

  unfoldable pub reparented : List (List ℕ) → ℕ
  reparented slots = length (filter (is_reparented slots) (up_from 0 (length flags)))
