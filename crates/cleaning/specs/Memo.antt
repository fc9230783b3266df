-- `renumber_graph`'s own way to the new lists: event by event, each erased event's list kept for those that name it. proofs/ has that it is the
-- routes' way.
use Rattle.std.specs.Prelude.{cond, ℕ, zero, suc, ◌+◌, ◌-◌, ltb, length, get_or}
use mathlib.Core.List.{List, [], ◌∷◌, ◌++◌, map, foldl}
use Rattle.lists.specs.Lists.{add, up_from}
use Rattle.cleaning.specs.Archive.{Archive, at, parents_of}
use Rattle.cleaning.specs.Cleaning.{renumber}

-- a parent more: itself before the start, its new number where it survives, its own new list where it is erased
unfoldable pub add_parent : Archive → List (List ℕ) → List ℕ → ℕ → List ℕ
add_parent A t acc p =
    let kept = add acc (renumber A p) in
    let list = foldl add acc (get_or t (p - A.start) []) in
    cond (ltb p A.start) (add acc p) (cond (at A p).erased list kept)

-- the new lists of a kind of the first n events
unfoldable pub memo : Archive → ℕ → ℕ → List (List ℕ)
memo A k zero = []
memo A k (suc n) = let t = memo A k n in t ++ (foldl (add_parent A t) [] (parents_of k (at A (A.start + n))) ∷ [])

-- the new lists of all events, kind by kind
unfoldable pub tables : (K : ℕ) → Archive → List (List (List ℕ))
tables K A = map (λ k. memo A k (length A.events)) (up_from 0 K)
