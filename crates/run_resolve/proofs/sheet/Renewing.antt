-- A column that starts with the new numbers of rows.
use mathlib.Core.Path.{◌≡◌, refl, ap, ◌∙◌}
use mathlib.Core.List.{List, [], ◌∷◌}
use Prim.Native.Nat.{ℕ, suc, ◌+◌, ◌≤◌}
use native.Mathlib.Omega.{arith}
use lib.ListN.{length, take, drop}
use lib.Seq.{sets, sets-eq, take_at}
use Rattle.run_renumber.specs.Numbers.{takes, numbers_from}

numbers-length : (n : ℕ) (fs : List ℕ) → length (numbers_from n fs) ≡ length fs
unfolding numbers_from
numbers-length n [] = refl
numbers-length n (f ∷ fs) = ap suc (numbers-length (n + takes f) fs)

pub numbers-front : (xs was fs : List ℕ) (start : ℕ) → xs ≡ sets was 0 (numbers_from start fs) → length fs ≤ 1024 → length was ≡ 1024
    → take (length fs) xs ≡ numbers_from start fs
numbers-front xs was fs start e h l =
    let vs = numbers_from start fs in
    ap (take (length fs)) (e ∙ sets-eq vs was 0 (omega (arith, numbers-length start fs)))
    ∙ take_at vs (drop (0 + length vs) was) (length fs) (numbers-length start fs)
