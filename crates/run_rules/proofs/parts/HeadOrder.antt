-- The rules on a head, one after another.
use Rattle.std.specs.Prelude.{Err, Ok, Result}
use mathlib.Core.Path.{◌≡◌, refl}
use mathlib.Core.Bool.{Bool, true, false, not, ◌&&◌, ◌||◌, beq}
use mathlib.Core.List.{List, [], ◌∷◌}
use mathlib.Core.Option.{Option}
use Prim.Native.Nat.{ℕ}
use native.Mathlib.Nat.{add-zero}
use lib.Dec.{eqb}
use borrow.Author.Tests.{not-true, not-false}
use Rattle.lists.specs.Lists.{same}
use Rattle.columns.specs.Refusal.{refuse, first_of}
use Rattle.columns.specs.Building.{Depth, subject_ok, numbers_ok, depth_ok}
use Rattle.columns.specs.declared.refusal.Refusal.{Refusal}
use Rattle.columns.specs.declared.refusal.Refusal.TheVariants.{SubjectLength, NumberRange, DepthOrder, GroupOrder, SourceOrder, CoverInSome}
use Rattle.columns.specs.Answers.{ruling}
use Rattle.cleaning.specs.Source.{is_there}
use Rattle.cleaning.specs.Held.{ending}
use Rattle.run_rules.specs.declared.parts.heads.Back.{Back}
use Rattle.run_rules.specs.parts.Back.{back_of, own_rules, back_rules, groups_near}

-- ── 1, 3, 8 ──────────────────────────────────────────────────────────────────────────────────

module _ (subject : List ℕ) (first rows : ℕ) (depth : Option Depth) {a : Bool} (e : a ≡ subject_ok subject) where
  pub own-subject : not a ≡ true → Err SubjectLength ≡ ruling (own_rules subject first rows depth)
  unfolding own_rules first_of
  own-subject p = rw (← e, not-true a p)

  module _ (p : not a ≡ false) {b : Bool} (f : b ≡ numbers_ok first rows) where
    pub own-numbers : not b ≡ true → Err NumberRange ≡ ruling (own_rules subject first rows depth)
    unfolding own_rules first_of
    own-numbers q = rw (← e, not-false a p, ← f, not-true b q)

    module _ (q : not b ≡ false) {d : Bool} (g : d ≡ depth_ok depth) where
      pub own-depth : not d ≡ true → Err DepthOrder ≡ ruling (own_rules subject first rows depth)
      unfolding own_rules first_of
      own-depth r = rw (← e, not-false a p, ← f, not-false b q, ← g, not-true d r)

      pub own-kept : not d ≡ false → (Ok tt) ≡ ruling (own_rules subject first rows depth)
      unfolding own_rules first_of
      own-kept r = rw (← e, not-false a p, ← f, not-false b q, ← g, not-false d r)

-- ── 24, 25, 26 ───────────────────────────────────────────────────────────────────────────────

covered-there : (group : ℕ) (subject : List ℕ) (end : ℕ) (c : Bool) → is_there (ending group subject end c).cover ≡ c
unfolding ending
covered-there group subject end true = refl
covered-there group subject end false = refl

module _ (back : Back) (before : List ℕ) (group : ℕ) (subject : List ℕ) (first : ℕ) (covered : Bool) where
  pub none_before : {r : Result (Unit {0}) Refusal} → not back.known ≡ true → r ≡ ruling (refuse GroupOrder (not (eqb group 0)))
      → r ≡ ruling (back_rules (back_of back before) group subject first covered)
  unfolding back_of
  none_before h k = rw (not-true back.known h) k

  module _ (h : not back.known ≡ false) where
    -- the rules as tests of numbers
    looked-back : back_rules (back_of back before) group subject first covered
        ≡ first_of (refuse GroupOrder (not (groups_near group back.group)) ∷ refuse SourceOrder (not (same subject before && eqb first back.end))
        ∷ refuse CoverInSome (not (not (eqb group back.group) || beq covered back.covered)) ∷ [])
    unfolding back_of ending
    looked-back = rw (not-false back.known h, add-zero back.end, covered-there back.group before back.end back.covered)

    module _ {a : Bool} (e : a ≡ groups_near group back.group) where
      pub back-group : not a ≡ true → Err GroupOrder ≡ ruling (back_rules (back_of back before) group subject first covered)
      unfolding first_of
      back-group p = rw (looked-back, ← e, not-true a p)

      module _ (p : not a ≡ false) {b : Bool} (f : b ≡ (same subject before && eqb first back.end)) where
        pub back-source : not b ≡ true → Err SourceOrder ≡ ruling (back_rules (back_of back before) group subject first covered)
        unfolding first_of
        back-source q = rw (looked-back, ← e, not-false a p, ← f, not-true b q)

        module _ (q : not b ≡ false) {d : Bool} (g : d ≡ (not (eqb group back.group) || beq covered back.covered)) where
          pub back-cover : not d ≡ true → Err CoverInSome ≡ ruling (back_rules (back_of back before) group subject first covered)
          unfolding first_of
          back-cover r = rw (looked-back, ← e, not-false a p, ← f, not-false b q, ← g, not-true d r)

          pub back-kept : not d ≡ false → (Ok tt) ≡ ruling (back_rules (back_of back before) group subject first covered)
          unfolding first_of
          back-kept r = rw (looked-back, ← e, not-false a p, ← f, not-false b q, ← g, not-false d r)
