-- What is answered and written where a depth and whether there are labels were given by numbers.
use Rattle.std.specs.Prelude.{Result}
use mathlib.Core.Bool.{Bool}
use mathlib.Core.List.{List}
use mathlib.Core.Path.{◌≡◌, ap, ◌∙◌}
use Prim.Native.Nat.{ℕ}
use lib.IntN.{ℤ}
use Rattle.columns.specs.Refusal.{Verdict, Lent}
use Rattle.columns.specs.Building.{Built}
use Rattle.columns.specs.declared.refusal.Refusal.{Refusal}
use Rattle.columns.specs.declared.depth.Depth.{Depth}
use Rattle.columns_encode.specs.declared.writing.Counts.{Counts}
use Rattle.columns_encode.specs.Answered.{encoded_of, offsets_laid, deltas_laid}
use Rattle.columns_encode.specs.Lent.{build_lent}
use Rattle.ffi.specs.declared.granule.Granule.{Granule}
use Rattle.ffi_build.specs.Numbers.{built_of}

module _ (subject : List ℕ) (first rows : ℕ) (offsets targets cs ks fs chains seqs ic ip ik : List ℕ) (from n : ℕ) (lent : List Lent) (d d' : Depth) (a b : Bool) (p : d ≡ d') (q : a ≡ b) where
  abbrev built : Depth → Bool → Verdict Built
  built depth labelled = build_lent subject first rows offsets targets cs ks fs depth labelled chains seqs ic ip ik from n lent

  pub build-told : {r : Granule} (x : Result Counts Refusal) → x ≡ encoded_of (built d a) → r ≡ built_of x → r ≡ built_of (encoded_of (built d' b))
  build-told x e h = rw (← p, ← q) (h ∙ ap built_of e)

  pub offsets-written : (set : ℕ) (l m : List ℕ) → l ≡ offsets_laid set (built d a) m → l ≡ offsets_laid set (built d' b) m
  offsets-written set l m h = rw (← p, ← q) h

  pub deltas-written : (set : ℕ) (l m : List ℤ) → l ≡ deltas_laid set (built d a) m → l ≡ deltas_laid set (built d' b) m
  deltas-written set l m h = rw (← p, ← q) h
