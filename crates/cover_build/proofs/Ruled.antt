-- The rules of building, return by return, and what holds where all are kept.
use Rattle.std.proofs.Common.{◌≡◌, ℕ, ◌≤◌, Bool, true, false, not, ◌&&◌, eqb, ltb, List, [], ◌∷◌, length, sym, ◌∙◌, arith, eqb-true, Err, Ok, Result}
use mathlib.Core.Option.{none}
use borrow.Author.Tests.{not-true, not-false}
use Rattle.lists.specs.Lists.{any}
use Rattle.lists.proofs.Tests.{both}
use Rattle.columns.specs.Limits.{max_records}
use Rattle.columns.specs.Refusal.{refuse, first_of, Lent, short, limits}
use Rattle.columns.specs.Answers.{label_columns, ruling}
use Rattle.columns.specs.declared.refusal.Refusal.{Refusal}
use Rattle.columns.specs.declared.refusal.Refusal.TheVariants.{OverRecords, SliceShort, CoverForm}
use Rattle.columns.proofs.FirstBroken.{each_none, not-refused, passed}
use Rattle.columns.proofs.Told.{told-kept}
use Rattle.cover.specs.Cover.{even_columns}
use Rattle.cover.specs.Answers.{link_columns, for_records}
use Rattle.cover_rows.proofs.limits.Anyone.{any-nil, few-first, long-first}
use Rattle.cover_rows.proofs.limits.Verdicts.{limits-records, limits-short, limits-none}
use Rattle.cover_build.specs.Built.{build_rules}

module _ (chains seqs s b c d : List ℕ) (lent : List Lent) where
  abbrev lengths : List ℕ
  lengths = length chains ∷ length seqs ∷ length s ∷ length b ∷ length c ∷ length d ∷ []

  -- ── return by return ───────────────────────────────────────────────────────────────────────

  module _ {t : Bool} (e : t ≡ any (ltb max_records) (length chains ∷ length seqs ∷ length s ∷ length b ∷ length c ∷ length d ∷ [])) where
    pub over-told : t ≡ true → Err OverRecords ≡ ruling (build_rules (label_columns chains seqs) (link_columns s b c d) lent)
    unfolding build_rules first_of
    over-told h = rw (limits-records lengths [] lent (sym e ∙ h))

    module _ (h : t ≡ false) {u : Bool} (f : u ≡ any short lent) where
      pub short-told : u ≡ true → Err SliceShort ≡ ruling (build_rules (label_columns chains seqs) (link_columns s b c d) lent)
      unfolding build_rules first_of
      short-told m = rw (limits-short lengths [] lent (sym e ∙ h) (any-nil _) (sym f ∙ m))

      module _ (m : u ≡ false) {v : Bool} (g : v ≡ even_columns (link_columns s b c d)) where
        within : limits lengths [] lent ≡ none
        within = limits-none lengths [] lent (sym e ∙ h) (any-nil _) (sym f ∙ m)

        pub uneven-told : not v ≡ true → Err CoverForm ≡ ruling (build_rules (label_columns chains seqs) (link_columns s b c d) lent)
        unfolding build_rules first_of
        uneven-told p = rw (within, sym g ∙ not-true v p)

        pub kept-told : not v ≡ false → (Ok tt) ≡ ruling (build_rules (label_columns chains seqs) (link_columns s b c d) lent)
        unfolding build_rules first_of
        kept-told p = rw (within, sym g ∙ not-false v p)

  -- ── where all are kept ─────────────────────────────────────────────────────────────────────

  module _ (k : Result (Unit {0}) Refusal) (e : k ≡ ruling (build_rules (label_columns chains seqs) (link_columns s b c d) lent)) (h : k ≡ Ok tt) where
    none-broken : (limits lengths [] lent ≡ none) × (refuse CoverForm (not (even_columns (link_columns s b c d))) ≡ none)
    unfolding build_rules
    none-broken = let o = each_none (limits lengths [] lent ∷ refuse CoverForm (not (even_columns (link_columns s b c d))) ∷ []) (told-kept _ e h) in (o.0, o.1.0)

    no-limit : (any (ltb max_records) lengths ≡ false) × (any short lent ≡ false)
    unfolding limits
    no-limit = let o = each_none _ none-broken.0 in (not-refused OverRecords _ o.0, not-refused SliceShort _ o.1.1.0)

    few-labels : length chains ≤ 1024
    few-labels = (few-first 1024 (length chains) _ no-limit.0).0

    few-links : length s ≤ 1024
    few-links =
        let o = few-first 1024 (length chains) _ no-limit.0 in
        let p = few-first 1024 (length seqs) _ o.1 in
        (few-first 1024 (length s) _ p.1).0

    links-even : (length b ≡ length s) × ((length c ≡ length s) × (length d ≡ length s))
    unfolding even_columns
    links-even =
        let o = both (eqb (length b) (length s)) (eqb (length c) (length s) && eqb (length d) (length s)) (passed CoverForm (even_columns (link_columns s b c d)) none-broken.1) in
        let p = both (eqb (length c) (length s)) (eqb (length d) (length s)) o.1 in
        (eqb-true (length b) (length s) o.0, (eqb-true (length c) (length s) p.0, eqb-true (length d) (length s) p.1))

-- ── the lent slices ──────────────────────────────────────────────────────────────────────────

module _ (chains seqs s b c d : List ℕ) (i m x p q r o : ℕ) (k : Result (Unit {0}) Refusal)
    (e : k ≡ ruling (build_rules (label_columns chains seqs) (link_columns s b c d) (for_records (i ∷ m ∷ x ∷ p ∷ q ∷ r ∷ o ∷ [])))) (h : k ≡ Ok tt) where
  ranges-lent : (1024 ≤ i) × ((1024 ≤ m) × ((1024 ≤ x) × (any short (for_records (p ∷ q ∷ r ∷ o ∷ [])) ≡ false)))
  ranges-lent =
      let f = long-first i _ (no-limit chains seqs s b c d _ k e h).1 in
      let g = long-first m _ f.1 in
      (f.0, (g.0, long-first x _ g.1))

  pub may_write : (length chains ≤ 1024) × ((1024 ≤ i) × ((1024 ≤ m) × (1024 ≤ x)))
  may_write = (few-labels chains seqs s b c d _ k e h, (ranges-lent.0, (ranges-lent.1.0, ranges-lent.1.1.0)))

  links-lent : (length s ≤ p) × ((length s ≤ q) × ((length s ≤ r) × (length s ≤ o)))
  links-lent =
      let few = few-links chains seqs s b c d _ k e h in
      let f = long-first p _ ranges-lent.1.1.1 in
      let g = long-first q _ f.1 in
      let j = long-first r _ g.1 in
      let l = long-first o [] j.1 in
      (omega arith, (omega arith, (omega arith, omega arith)))

  pub may-sort : ((length b ≡ length s) × ((length c ≡ length s) × (length d ≡ length s))) × ((length s ≤ 1024) × ((length s ≤ p) × ((length s ≤ q) × ((length s ≤ r) × (length s ≤ o)))))
  may-sort = (links-even chains seqs s b c d _ k e h, (few-links chains seqs s b c d _ k e h, links-lent))
