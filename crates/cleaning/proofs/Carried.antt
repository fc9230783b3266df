-- References: output files have none, and an archive carries some just if it has more than none in all.
use mathlib.Core.Path.{◌≡◌, refl, ap₂, ◌∙◌}
use mathlib.Core.Bool.{false, ◌||◌}
use mathlib.Core.Logic.{inl, inr}
use mathlib.Core.List.{List, [], ◌∷◌, map}
use Prim.Native.Nat.{ℕ, ◌+◌}
use native.Mathlib.Omega.{arith}
use borrow.Author.Tests.{lt-ltb, ltb-true, ltb-false}
use lib.Dec.{ltb}
use lib.ListN.{length}
use Rattle.lists.specs.Lists.{any, sum}
use Rattle.lists.proofs.Tests.{tested}
use Rattle.archive.specs.File.{any_reference, File}
use Rattle.archive.proofs.References.{none_of, any-counted}
use Rattle.cleaning.specs.Taking.{carries}
use Rattle.cleaning.specs.Summary.{Summary}
use Rattle.cleaning.specs.Writing.{rows_in, output_of, outputs, group_numbers}

pub none-carried : (K : ℕ) (S : Summary) → carries (outputs K S) ≡ false
unfolding carries any outputs output_of
none-carried K S = go (group_numbers S)
  where
    go : (gs : List ℕ) → any (λ f. any_reference f.references) (map (output_of K S) gs) ≡ false
    go [] = refl
    go (g ∷ gs) = rw (none_of (rows_in S g)) (go gs)

-- a sum of two is more than none if one of them is
some_of : (a b : ℕ) → ltb 0 a || ltb 0 b ≡ ltb 0 (a + b)
some_of a b = elim (tested (ltb 0 a)) [
  | inl e ↦ rw (e, lt-ltb 0 (a + b) (omega (arith, ltb-true 0 a e)))
  | inr e ↦ let s : a + b ≡ b = omega (arith, ltb-false 0 a e) in rw (e, s)
]

pub carries-counted : (fs : List File) → carries fs ≡ ltb 0 (sum (λ f. sum length f.references) fs)
unfolding carries any sum
carries-counted [] = refl
carries-counted (f ∷ fs) =
    ap₂ (λ x y. x || y) (any-counted f.references) (carries-counted fs) ∙ some_of (sum length f.references) (sum (λ f. sum length f.references) fs)
