-- Columns within the limits fit into slices that are long enough.
use mathlib.Core.Path.{◌≡◌, sym, ◌∙◌}
use mathlib.Core.Bool.{Bool, false}
use mathlib.Core.List.{[], ◌∷◌}
use Prim.Native.Nat.{ℕ, ◌≤◌}
use native.Mathlib.Omega.{arith}
use lib.Dec.{ltb}
use Rattle.lists.specs.Lists.{any}
use Rattle.columns.specs.Limits.{max_records}
use Rattle.columns.specs.Refusal.{short}
use Rattle.cover.specs.Answers.{for_records}
use Rattle.cover_rows.proofs.limits.Anyone.{few-first, long-first}

module _ (s b c d : ℕ) (t : Bool) (e : t ≡ any (ltb max_records) (s ∷ b ∷ c ∷ d ∷ [])) (h : t ≡ false) where
  pub four-few : s ≤ 1024
  four-few = (few-first 1024 s _ (sym e ∙ h)).0

  module _ (x y z v : ℕ) (u : Bool) (f : u ≡ any short (for_records (x ∷ y ∷ z ∷ v ∷ []))) (k : u ≡ false) where
    pub four-rooms : (s ≤ x) × ((s ≤ y) × ((s ≤ z) × (s ≤ v)))
    four-rooms =
        let p = long-first x _ (sym f ∙ k) in
        let q = long-first y _ p.1 in
        let r = long-first z _ q.1 in
        let o = long-first v [] r.1 in
        (omega (arith, four-few), (omega (arith, four-few), (omega (arith, four-few), omega (arith, four-few))))
