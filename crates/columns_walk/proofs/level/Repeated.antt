-- A walk is the step repeated: its levels are the next one and the levels from there on, until one is empty.
use mathlib.Core.Path.{◌≡◌, refl}
use mathlib.Core.Bool.{cond, true, false, true≢false}
use mathlib.Core.Logic.{inl, inr}
use mathlib.Core.List.{List, [], ◌∷◌, ◌++◌}
use Prim.Native.Nat.{ℕ, zero, suc, ◌<◌, ◌-◌}
use native.Mathlib.Omega.{arith}
use lib.ListN.{length}
use Rattle.lists.specs.Lists.{is_empty}
use Rattle.lists.proofs.Tests.{tested}
use Rattle.columns.specs.Walk.{level, levels_from}
use Rattle.columns.proofs.Levels.{bound-enough}

not-empty : (l : List ℕ) → is_empty l ≡ false → 0 < length l
unfolding is_empty
not-empty [] e = absurd (true≢false e)
not-empty (x ∷ xs) e = omega arith

level-none : (p : ℕ → List ℕ) (visited frontier : List ℕ) → is_empty (level p 0 visited frontier) ≡ true
unfolding level is_empty
level-none p visited frontier = refl

-- `levelsFrom` with the limit for its bound, as `levels` has it
pub repeated : (p : ℕ → List ℕ) (limit : ℕ) (visited frontier : List ℕ) → levels_from p limit limit visited frontier
    ≡ cond (is_empty (level p limit visited frontier)) []
    (level p limit visited frontier ∷ levels_from p (limit - length (level p limit visited frontier)) (limit - length (level p limit visited frontier))
    (visited ++ level p limit visited frontier) (level p limit visited frontier))
unfolding levels_from
repeated p zero visited frontier = rw (level-none p visited frontier)
repeated p (suc bound) visited frontier =
    let found = level p (suc bound) visited frontier in
    elim (tested (is_empty found)) [
      | inl e ↦ rw e
      | inr e ↦ let n = not-empty found e in rw (e, bound-enough p bound (suc bound - length found) (suc bound - length found) (visited ++ found) found (omega arith) (omega arith))
    ]
