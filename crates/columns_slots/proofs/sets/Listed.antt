-- The test of each element as document 01 has it, and as the library's iterators answer it: they are the same.
use Rattle.std.proofs.Common.{◌≡◌, refl, sym, ◌∙◌, ap, ℕ, ◌+◌, ◌-◌, ◌≤◌, Bool, ◌&&◌, List, [], ◌∷◌, take, drop, arith}
use Rattle.std.proofs.Math.Seq.{slice}
use Rattle.std.proofs.lemmas.List.{drop-take}
use Rattle.std.specs.List.{list_all}
use Rattle.lists.specs.Lists.{all}

pub all-listed : {A : Type 0} (p : A → Bool) (l : List A) → list_all p l ≡ all p l
unfolding all
all-listed p [] = refl
all-listed p (x ∷ l) = ap (λ b. p x && b) (all-listed p l)

-- a part by its length, as the library's slices are
pub part-slice : {A : Type 0} (l : List A) (from to : ℕ) → from ≤ to → take (to - from) (drop from l) ≡ slice from to l
part-slice l from to h =
    let e : from + (to - from) ≡ to = omega arith in
    sym (drop-take from (to - from) l) ∙ ap (λ n. drop from (take n l)) e
