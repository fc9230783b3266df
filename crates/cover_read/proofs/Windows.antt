-- The window question's verdict, return by return.
use Rattle.std.specs.Prelude.{Err, Ok}
use mathlib.Core.Path.{◌≡◌, sym, ◌∙◌}
use mathlib.Core.Bool.{Bool, true, false, not}
use mathlib.Core.List.{List, [], ◌∷◌}
use Prim.Native.Nat.{ℕ}
use lib.Dec.{ltb}
use lib.ListN.{length}
use borrow.Author.Tests.{not-true, not-false}
use Rattle.lists.specs.Lists.{any}
use Rattle.columns.specs.Limits.{max_records}
use Rattle.columns.specs.Refusal.{refused, accepted}
use Rattle.columns.specs.declared.refusal.Refusal.TheVariants.{OverRecords, CoverForm}
use Rattle.columns.proofs.FirstBroken.{passes}
use Rattle.cover.specs.Questions.{meets}
use Rattle.cover.specs.Answers.{ranges_in, range_columns, range_lengths, ranges_fit, column_rules, may_hold_lent, window_answer}
use Rattle.cover_rows.proofs.limits.Anyone.{any-nil}
use Rattle.cover_rows.proofs.limits.Verdicts.{limits-records, limits-none, first-refuses, next-rule, no-rule, refuse-not}

module _ (a b c : List ℕ) (chain low high : ℕ) {t : Bool} (e : t ≡ any (ltb max_records) (length a ∷ length b ∷ length c ∷ [])) where
  pub window-over : t ≡ true → Err OverRecords ≡ window_answer (may_hold_lent (range_columns a b c) chain low high)
  unfolding window_answer may_hold_lent
  window-over h = rw (first-refuses (any (meets chain low high) (ranges_in a b c)) OverRecords _ _ (limits-records (range_lengths (range_columns a b c)) [] [] (sym e ∙ h)))

  module _ (h : t ≡ false) {s : Bool} (f : s ≡ ranges_fit (range_columns a b c)) where
    pub window-form : not s ≡ true → Err CoverForm ≡ window_answer (may_hold_lent (range_columns a b c) chain low high)
    unfolding window_answer may_hold_lent column_rules
    window-form q =
        rw (next-rule (any (meets chain low high) (ranges_in a b c)) (refused CoverForm) _ _ (limits-none (range_lengths (range_columns a b c)) [] [] (sym e ∙ h) (any-nil _) (any-nil _))
        (first-refuses (any (meets chain low high) (ranges_in a b c)) CoverForm _ [] (refuse-not CoverForm (ranges_fit (range_columns a b c)) (sym f ∙ not-true s q))))

    pub window-fits : not s ≡ false → ranges_fit (range_columns a b c) ≡ true
    window-fits q = sym f ∙ not-false s q

    pub window-told : not s ≡ false → (r : Bool) → r ≡ any (meets chain low high) (ranges_in a b c) → Ok r ≡ window_answer (may_hold_lent (range_columns a b c) chain low high)
    unfolding window_answer may_hold_lent column_rules
    window-told q r g =
        rw (
          next-rule (any (meets chain low high) (ranges_in a b c)) (accepted (any (meets chain low high) (ranges_in a b c))) _ _
              (limits-none (range_lengths (range_columns a b c)) [] [] (sym e ∙ h) (any-nil _) (any-nil _))
              (next-rule (any (meets chain low high) (ranges_in a b c)) (accepted (any (meets chain low high) (ranges_in a b c))) _ []
              (passes CoverForm (ranges_fit (range_columns a b c)) (sym f ∙ not-false s q))
              (no-rule (any (meets chain low high) (ranges_in a b c)))),
          g,
        )
