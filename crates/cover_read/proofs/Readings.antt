-- The verdict of reading, return by return.
use Rattle.std.specs.Prelude.{Err, Ok}
use mathlib.Core.Path.{◌≡◌, sym, ◌∙◌}
use mathlib.Core.Bool.{Bool, true, false, not}
use mathlib.Core.List.{List, [], ◌∷◌, ◌++◌}
use mathlib.Core.Option.{none}
use Prim.Native.Nat.{ℕ, ◌≤◌}
use native.Mathlib.Omega.{arith}
use lib.Dec.{ltb}
use lib.ListN.{length}
use borrow.Author.Tests.{not-true, not-false}
use Rattle.lists.specs.Lists.{any}
use Rattle.columns.specs.Limits.{max_records}
use Rattle.columns.specs.Refusal.{refused, accepted, short, limits}
use Rattle.columns.specs.declared.refusal.Refusal.TheVariants.{OverRecords, SliceShort, CoverForm}
use Rattle.columns.proofs.FirstBroken.{passes}
use Rattle.cover.specs.Cover.{LinkColumns, Cover, links_ok, link_rules, stored_links}
use Rattle.cover.specs.Answers.{RangeColumns, range_lengths, link_lengths, lent_ranges, ranges_fit, column_rules, for_records, read_lent, counted, links_over, links_after}
use Rattle.cover_rows.proofs.limits.Anyone.{any-nil, few-first, long-first}
use Rattle.cover_rows.proofs.Fitting.{ok-count}
use Rattle.cover_rows.proofs.limits.Verdicts.{counted-refused, columns-kept, counted-done, columns-written, limits-records, limits-short, limits-none, first-refuses, next-rule, no-rule, refuse-not}

module _ (r : RangeColumns) (l : LinkColumns) (ns : List ℕ) where
  abbrev cover : Cover
  cover = record { ranges = lent_ranges r; links = stored_links l }

  module _ {t : Bool} (e : t ≡ any (ltb max_records) (range_lengths r ++ link_lengths l)) where
    read-over : t ≡ true → read_lent r l (for_records ns) ≡ refused OverRecords
    unfolding read_lent
    read-over h = first-refuses cover OverRecords _ _ (limits-records (range_lengths r ++ link_lengths l) [] (for_records ns) (sym e ∙ h))

    pub read-over-told : t ≡ true → Err OverRecords ≡ counted (λ x. x.links) (read_lent r l (for_records ns))
    read-over-told h = counted-refused _ _ (read-over h)

    pub read-over-kept : (o : LinkColumns) → t ≡ true → o ≡ links_after (λ x. x.links) (read_lent r l (for_records ns)) o
    read-over-kept o h = columns-kept _ _ OverRecords o (read-over h)

    module _ (h : t ≡ false) {u : Bool} (f : u ≡ any short (for_records ns)) where
      read_short : u ≡ true → read_lent r l (for_records ns) ≡ refused SliceShort
      unfolding read_lent
      read_short k = first-refuses cover SliceShort _ _ (limits-short (range_lengths r ++ link_lengths l) [] (for_records ns) (sym e ∙ h) (any-nil _) (sym f ∙ k))

      pub read-short-told : u ≡ true → Err SliceShort ≡ counted (λ x. x.links) (read_lent r l (for_records ns))
      read-short-told k = counted-refused _ _ (read_short k)

      pub read-short-kept : (o : LinkColumns) → u ≡ true → o ≡ links_after (λ x. x.links) (read_lent r l (for_records ns)) o
      read-short-kept o k = columns-kept _ _ SliceShort o (read_short k)

      module _ (k : u ≡ false) {v : Bool} (g : v ≡ ranges_fit r) where
        within : limits (range_lengths r ++ link_lengths l) [] (for_records ns) ≡ none
        within = limits-none (range_lengths r ++ link_lengths l) [] (for_records ns) (sym e ∙ h) (any-nil _) (sym f ∙ k)

        read-ranges : not v ≡ true → read_lent r l (for_records ns) ≡ refused CoverForm
        unfolding read_lent column_rules
        read-ranges m = next-rule cover (refused CoverForm) _ _ within (first-refuses cover CoverForm _ _ (refuse-not CoverForm (ranges_fit r) (sym g ∙ not-true v m)))

        pub read-ranges-told : not v ≡ true → Err CoverForm ≡ counted (λ x. x.links) (read_lent r l (for_records ns))
        read-ranges-told m = counted-refused _ _ (read-ranges m)

        pub read-ranges-kept : (o : LinkColumns) → not v ≡ true → o ≡ links_after (λ x. x.links) (read_lent r l (for_records ns)) o
        read-ranges-kept o m = columns-kept _ _ CoverForm o (read-ranges m)

        module _ (m : not v ≡ false) {w : Bool} (o : w ≡ links_ok l) where
          read-links : not w ≡ true → read_lent r l (for_records ns) ≡ refused CoverForm
          unfolding read_lent column_rules link_rules
          read-links p =
              next-rule cover (refused CoverForm) _ _ within (next-rule cover (refused CoverForm) _ _ (passes CoverForm (ranges_fit r) (sym g ∙ not-false v m))
              (first-refuses cover CoverForm _ _ (refuse-not CoverForm (links_ok l) (sym o ∙ not-true w p))))

          pub read-links-told : not w ≡ true → Err CoverForm ≡ counted (λ x. x.links) (read_lent r l (for_records ns))
          read-links-told p = counted-refused _ _ (read-links p)

          pub read-links-kept : (q : LinkColumns) → not w ≡ true → q ≡ links_after (λ x. x.links) (read_lent r l (for_records ns)) q
          read-links-kept q p = columns-kept _ _ CoverForm q (read-links p)

          read_all : not w ≡ false → read_lent r l (for_records ns) ≡ accepted cover
          unfolding read_lent column_rules link_rules
          read_all p =
              next-rule cover (accepted cover) _ _ within (next-rule cover (accepted cover) _ _ (passes CoverForm (ranges_fit r) (sym g ∙ not-false v m))
              (next-rule cover (accepted cover) _ _ (passes CoverForm (links_ok l) (sym o ∙ not-false w p)) (no-rule cover)))

          pub read-all-told : not w ≡ false → Ok (length l.from_chains) ≡ counted (λ x. x.links) (read_lent r l (for_records ns))
          read-all-told p = counted-done _ _ cover (read_all p) (ok-count l.from_chains l.from_seqs l.to_chains l.to_seqs (sym o ∙ not-false w p))

          pub read-all-written : (x y : LinkColumns) → y ≡ links_over (stored_links l) x → not w ≡ false → y ≡ links_after (λ x. x.links) (read_lent r l (for_records ns)) x
          read-all-written x y q p = columns-written _ _ cover x y (read_all p) q

-- columns within the limits fit into the slices
module _ (a b c s fs tc ts x y z v : ℕ) (t : Bool) (e : t ≡ any (ltb max_records) (a ∷ b ∷ c ∷ s ∷ fs ∷ tc ∷ ts ∷ [])) (h : t ≡ false) where
  pub few : s ≤ 1024
  few =
      let p = few-first 1024 a _ (sym e ∙ h) in
      let q = few-first 1024 b _ p.1 in
      let r = few-first 1024 c _ q.1 in
      (few-first 1024 s _ r.1).0

  module _ (u : Bool) (f : u ≡ any short (for_records (x ∷ y ∷ z ∷ v ∷ []))) (k : u ≡ false) where
    pub rooms : (s ≤ x) × ((s ≤ y) × ((s ≤ z) × (s ≤ v)))
    rooms =
        let p = long-first x _ (sym f ∙ k) in
        let q = long-first y _ p.1 in
        let r = long-first z _ q.1 in
        let o = long-first v [] r.1 in
        (omega (arith, few), (omega (arith, few), (omega (arith, few), omega (arith, few))))
