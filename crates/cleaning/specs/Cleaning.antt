-- Document 01, "Cleaning": survivors, their ranks and new numbers, their new parents.
use Rattle.std.specs.Prelude.{Bool, cond, List, [], ◌∷◌, map, ℕ, suc, ◌+◌, ◌-◌, ltb, length, take}
use Rattle.std.proofs.Math.Option.{Option, none, some}
use Rattle.lists.specs.Lists.{any, filter, joined, once}
use Rattle.columns.specs.Building.{in_file}
use Rattle.cleaning.specs.Archive.{Event, Archive, at}
use Rattle.cleaning.specs.Routes.{passes, ends}

-- survivors among events
unfoldable pub count : List Event → ℕ
count [] = 0
count (e ∷ es) = cond e.erased (count es) (suc (count es))

-- the place among the survivors, in old order
unfoldable pub rank : Archive → ℕ → ℕ
rank A p = count (take (p - A.start) A.events)

-- the new number: consecutive from the start; numbers before the start stay
unfoldable pub renumber : Archive → ℕ → ℕ
renumber A p = cond (ltb p A.start) p (A.start + rank A p)

-- the new parents of a kind: the ends of the routes, each end once, in order of first route, under their new numbers
unfoldable pub new_parents : Archive → ℕ → ℕ → List ℕ
new_parents A k p = map (renumber A) (once (ends A k p))

-- the numbers of the survivors among events from number n on
unfoldable pub survivors_from : ℕ → List Event → List ℕ
survivors_from n [] = []
survivors_from n (e ∷ es) = cond e.erased (survivors_from (suc n) es) (n ∷ survivors_from (suc n) es)

-- the numbers of the survivors, in old order
unfoldable pub survivors : Archive → List ℕ
survivors A = survivors_from A.start A.events

-- the old-to-new map of an event's number: nothing where it is erased
unfoldable pub new_number : Archive → ℕ → Option ℕ
new_number A p = cond (at A p).erased none (some (renumber A p))

-- the same map of any number: nothing where no event has it
unfoldable pub mapped : Archive → ℕ → Option ℕ
mapped A p = cond (in_file A.start (A.start + length A.events) p) (new_number A p) none

-- a survivor is reparented when it names an erased parent in any of its lists
unfoldable pub is_reparented : Archive → ℕ → Bool
is_reparented A p = any (passes A) (joined (at A p).parents)

unfoldable pub reparented : Archive → ℕ
reparented A = length (filter (is_reparented A) (survivors A))
