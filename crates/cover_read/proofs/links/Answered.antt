-- The links question's verdict, return by return.
use Rattle.std.specs.Prelude.{Err, Ok}
use mathlib.Core.Path.{◌≡◌, sym, ◌∙◌}
use mathlib.Core.Bool.{Bool, true, false, not}
use mathlib.Core.List.{List, [], ◌∷◌}
use mathlib.Core.Option.{none}
use Prim.Native.Nat.{ℕ, ◌≤◌, ◌<◌}
use lib.Dec.{ltb}
use lib.ListN.{length}
use borrow.Author.Tests.{not-true, not-false}
use Rattle.lists.specs.Lists.{any}
use Rattle.columns.specs.Limits.{max_records, max_numbers}
use Rattle.columns.specs.Refusal.{refused, accepted, short, limits}
use Rattle.columns.specs.declared.refusal.Refusal.TheVariants.{OverRecords, OverNumbers, SliceShort, CoverForm}
use Rattle.columns.proofs.FirstBroken.{passes}
use Rattle.cover.specs.Chains.{Link}
use Rattle.cover.specs.Cover.{LinkColumns, links_ok, link_rules, stored_links}
use Rattle.cover.specs.Questions.{chain_links}
use Rattle.cover.specs.Answers.{link_lengths, for_records, counted, links_over, links_after}
use Rattle.cover_rows.proofs.limits.Anyone.{any_here, any-on, any-nil}
use Rattle.cover_rows.proofs.limits.Verdicts.{counted-refused, counted-done, columns-kept, columns-written, limits-records, limits-numbers, limits-short, limits-none}
use Rattle.cover_rows.proofs.limits.Verdicts.{first-refuses, next-rule, no-rule, refuse-not}
use Rattle.cover_read.specs.chosen.Chosen.{links_from}

module _ (l : LinkColumns) (chains ns : List ℕ) where
  abbrev found : List Link
  found = links_from chains (stored_links l)

  module _ {t : Bool} (e : t ≡ any (ltb max_records) (link_lengths l)) where
    over : t ≡ true → chain_links l chains (for_records ns) ≡ refused OverRecords
    unfolding chain_links
    over h = first-refuses _ OverRecords _ _ (limits-records (link_lengths l) (length chains ∷ []) (for_records ns) (sym e ∙ h))

    pub over-told : t ≡ true → Err OverRecords ≡ counted (λ x. x) (chain_links l chains (for_records ns))
    over-told h = counted-refused _ _ (over h)

    pub over-kept : (o : LinkColumns) → t ≡ true → o ≡ links_after (λ x. x) (chain_links l chains (for_records ns)) o
    over-kept o h = columns-kept _ _ OverRecords o (over h)

    module _ (h : t ≡ false) where
      many : 4096 < length chains → chain_links l chains (for_records ns) ≡ refused OverNumbers
      unfolding chain_links
      many k = first-refuses _ OverNumbers _ _ (limits-numbers (link_lengths l) (length chains ∷ []) (for_records ns) (sym e ∙ h) (sym (any_here 4096 (length chains) [] k)))

      pub many-told : 4096 < length chains → Err OverNumbers ≡ counted (λ x. x) (chain_links l chains (for_records ns))
      many-told k = counted-refused _ _ (many k)

      pub many-kept : (o : LinkColumns) → 4096 < length chains → o ≡ links_after (λ x. x) (chain_links l chains (for_records ns)) o
      many-kept o k = columns-kept _ _ OverNumbers o (many k)

      module _ (k : length chains ≤ 4096) {u : Bool} (f : u ≡ any short (for_records ns)) where
        few-chains : any (ltb max_numbers) (length chains ∷ []) ≡ false
        few-chains = sym (any-on 4096 (length chains) [] k (sym (any-nil (ltb max_numbers))))

        no_room : u ≡ true → chain_links l chains (for_records ns) ≡ refused SliceShort
        unfolding chain_links
        no_room m = first-refuses _ SliceShort _ _ (limits-short (link_lengths l) (length chains ∷ []) (for_records ns) (sym e ∙ h) few-chains (sym f ∙ m))

        pub short-told : u ≡ true → Err SliceShort ≡ counted (λ x. x) (chain_links l chains (for_records ns))
        short-told m = counted-refused _ _ (no_room m)

        pub short-kept : (o : LinkColumns) → u ≡ true → o ≡ links_after (λ x. x) (chain_links l chains (for_records ns)) o
        short-kept o m = columns-kept _ _ SliceShort o (no_room m)

        module _ (m : u ≡ false) {w : Bool} (g : w ≡ links_ok l) where
          within : limits (link_lengths l) (length chains ∷ []) (for_records ns) ≡ none
          within = limits-none (link_lengths l) (length chains ∷ []) (for_records ns) (sym e ∙ h) few-chains (sym f ∙ m)

          broken : not w ≡ true → chain_links l chains (for_records ns) ≡ refused CoverForm
          unfolding chain_links link_rules
          broken p = next-rule _ (refused CoverForm) _ _ within (first-refuses _ CoverForm _ _ (refuse-not CoverForm (links_ok l) (sym g ∙ not-true w p)))

          pub form-told : not w ≡ true → Err CoverForm ≡ counted (λ x. x) (chain_links l chains (for_records ns))
          form-told p = counted-refused _ _ (broken p)

          pub form-kept : (o : LinkColumns) → not w ≡ true → o ≡ links_after (λ x. x) (chain_links l chains (for_records ns)) o
          form-kept o p = columns-kept _ _ CoverForm o (broken p)

          done : not w ≡ false → chain_links l chains (for_records ns) ≡ accepted found
          unfolding chain_links link_rules links_from
          done p = next-rule _ (accepted found) _ _ within (next-rule _ (accepted found) _ _ (passes CoverForm (links_ok l) (sym g ∙ not-false w p)) (no-rule found))

          pub found-told : not w ≡ false → (k : ℕ) → k ≡ length (links_from chains (stored_links l)) → Ok k ≡ counted (λ x. x) (chain_links l chains (for_records ns))
          found-told p k q = counted-done _ _ found (done p) q

          pub found-written : not w ≡ false → (o o' : LinkColumns) → o' ≡ links_over (links_from chains (stored_links l)) o → o' ≡ links_after (λ x. x) (chain_links l chains (for_records ns)) o
          found-written p o o' q = columns-written _ _ found o o' (done p) q

pub links-ok : (l : LinkColumns) (w : Bool) → w ≡ links_ok l → not w ≡ false → links_ok l ≡ true
links-ok l w o p = sym o ∙ not-false w p
