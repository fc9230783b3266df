-- The rules of a granule, one after another.
use Rattle.std.specs.Prelude.{Err, Ok}
use Prim.Native.Nat.{ℕ, ◌+◌, ◌-◌, ◌*◌, ◌≤◌, ◌<◌}
use Rattle.columns.specs.Limits.{kinds}
use Rattle.columns.specs.Building.{deltas_fit}
use Rattle.columns.specs.Refusal.{refuse, first_of}
use Rattle.columns.specs.declared.refusal.Refusal.TheVariants.{GranuleRows, DeltaRange}
use Rattle.lists.specs.Lists.{part}
use Rattle.columns_rules.proofs.spans.GranuleTables.{fit_reverse}
use Rattle.columns.specs.Answers.{ruling}
use Rattle.columns_rules.specs.spans.Spanned.{span_rules}
use borrow.Author.Tests.{lt-ltb, le-ltb, not-true, not-false}
use mathlib.Core.Bool.{Bool, true, false, not}
use mathlib.Core.List.{List, [], ◌∷◌}
use mathlib.Core.Path.{◌≡◌}
use native.Mathlib.Omega.{arith}

pub granule-within : (from n rows : ℕ) → from ≤ rows → n ≤ rows - from → from + n ≤ rows
granule-within from n rows h k = omega arith

module _ (first rows : ℕ) (lists inbound : List (List ℕ)) (from n : ℕ) where
  pub rows-past : rows < from → Err GranuleRows ≡ ruling (span_rules first rows lists inbound from n)
  unfolding span_rules first_of
  rows-past h = rw (lt-ltb rows (from + n) (omega arith))

  module _ (h : from ≤ rows) where
    pub rows-over : rows - from < n → Err GranuleRows ≡ ruling (span_rules first rows lists inbound from n)
    unfolding span_rules first_of
    rows-over k = rw (lt-ltb rows (from + n) (omega arith))

    module _ (k : n ≤ rows - from) {a : Bool} (e : a ≡ deltas_fit kinds (first + from) (part (2 * from) (2 * n) lists)) where
      pub forward-far : not a ≡ true → Err DeltaRange ≡ ruling (span_rules first rows lists inbound from n)
      unfolding span_rules first_of
      forward-far p = rw (le-ltb rows (from + n) (omega arith), ← e, not-true a p)

      module _ (p : not a ≡ false) (few : rows ≤ 1024) {b : Bool} (f : b ≡ deltas_fit kinds (first + from) (part (2 * from) (2 * n) inbound)) where
        rest-span : span_rules first rows lists inbound from n ≡ first_of (refuse DeltaRange (not b) ∷ [])
        unfolding span_rules first_of
        rest-span = rw (le-ltb rows (from + n) (omega arith), ← e, not-false a p, fit_reverse first rows from n lists few (omega arith), ← f)

        pub inbound-far : not b ≡ true → Err DeltaRange ≡ ruling (span_rules first rows lists inbound from n)
        unfolding first_of
        inbound-far q = rw (rest-span, not-true b q)

        pub spans-kept : not b ≡ false → (Ok tt) ≡ ruling (span_rules first rows lists inbound from n)
        unfolding first_of
        spans-kept q = rw (rest-span, not-false b q)
