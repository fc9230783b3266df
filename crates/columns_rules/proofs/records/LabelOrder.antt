-- What the tests of the labels say of the labels' rules.
use Rattle.std.specs.Prelude.{Err, Ok}
use mathlib.Core.Path.{◌≡◌}
use mathlib.Core.Bool.{Bool, true, false, not}
use mathlib.Core.List.{List, []}
use Prim.Native.Nat.{ℕ}
use lib.ListN.{length}
use borrow.Author.Tests.{eq-eqb, ne_eqb, not-true, not-false}
use Rattle.columns.specs.Refusal.{first_of}
use Rattle.columns.specs.Reading.{labels_of}
use Rattle.columns.specs.Building.{seqs_rise, labels_rules}
use Rattle.columns.specs.Answers.{ruling}
use Rattle.columns_rules.specs.records.Recorded.{labels_given}
use Rattle.columns.specs.declared.refusal.Refusal.TheVariants.{LabelCount, SeqNotRising}

module _ (rows : ℕ) (labelled : Bool) (chains seqs : List ℕ) where
  pub labels-none : not labelled ≡ true → (Ok tt) ≡ ruling (labels_rules rows (labels_given labelled chains seqs))
  labels-none h = rw (not-true labelled h)

  module _ (h : not labelled ≡ false) where
    pub chains-count : (length chains ≡ rows → ⊥) → Err LabelCount ≡ ruling (labels_rules rows (labels_given labelled chains seqs))
    unfolding first_of
    chains-count k = rw (not-false labelled h, ne_eqb (length chains) rows k)

    module _ (k : length chains ≡ rows) where
      pub seqs-count : (length seqs ≡ rows → ⊥) → Err LabelCount ≡ ruling (labels_rules rows (labels_given labelled chains seqs))
      unfolding first_of
      seqs-count l = rw (not-false labelled h, eq-eqb (length chains) rows k, ne_eqb (length seqs) rows l)

      module _ (l : length seqs ≡ rows) {r : Bool} (e : r ≡ seqs_rise [] (labels_of chains seqs)) where
        pub seqs-fall : not r ≡ true → Err SeqNotRising ≡ ruling (labels_rules rows (labels_given labelled chains seqs))
        unfolding first_of
        seqs-fall q = rw (not-false labelled h, eq-eqb (length chains) rows k, eq-eqb (length seqs) rows l, ← e, not-true r q)

        pub labels_kept : not r ≡ false → (Ok tt) ≡ ruling (labels_rules rows (labels_given labelled chains seqs))
        unfolding first_of
        labels_kept q = rw (not-false labelled h, eq-eqb (length chains) rows k, eq-eqb (length seqs) rows l, ← e, not-false r q)
