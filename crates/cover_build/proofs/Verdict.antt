-- Building's verdict by its rules: the answer and the columns, for each way out.
use Rattle.std.proofs.Common.{◌≡◌, ℕ, List, length, refl, ap, ◌∙◌, Err, Ok, Result}
use mathlib.Core.Option.{Option}
use Rattle.columns.specs.Refusal.{Verdict, refused, accepted, unless, Lent}
use Rattle.columns.specs.Reading.{labels_of}
use Rattle.columns.specs.Answers.{label_columns, ruling}
use Rattle.columns.specs.declared.refusal.Refusal.{Refusal}
use Rattle.columns.proofs.Told.{told-kept, told}
use Rattle.cover.specs.Chains.{ranges_of, sort_links}
use Rattle.cover.specs.Cover.{LinkColumns, Cover, links_of, cover_of, build_cover}
use Rattle.cover.specs.Answers.{RangeColumns, link_columns, links_over, links_after}
use Rattle.cover_rows.proofs.limits.Verdicts.{columns-kept, columns-written}
use Rattle.cover_sort.specs.labels.Runs.{ranges_over}
use Rattle.cover_build.specs.Built.{build_rules, built_of, ranges_after}

module _ (v : Verdict Cover) where
  answer-refused : {why : Refusal} → v ≡ refused why → Err why ≡ built_of v
  unfolding built_of
  answer-refused e = rw e

  answer-done : (c : Cover) (m n : ℕ) → v ≡ accepted c → m ≡ length c.ranges → n ≡ length c.links → Ok (m, n) ≡ built_of v
  unfolding built_of
  answer-done c m n e f g = rw (e, f, g)

  ranges-kept : (o : RangeColumns) {why : Refusal} → v ≡ refused why → o ≡ ranges_after v o
  unfolding ranges_after
  ranges-kept o e = rw e

  ranges-written : (c : Cover) (o o' : RangeColumns) → v ≡ accepted c → o' ≡ ranges_over c.ranges o → o' ≡ ranges_after v o
  unfolding ranges_after
  ranges-written c o o' e f = rw e f

module _ (chains seqs s b c d : List ℕ) (lent : List Lent) (k : Result (Unit {0}) Refusal) (e : k ≡ ruling (build_rules (label_columns chains seqs) (link_columns s b c d) lent)) where
  abbrev rules : Option Refusal
  rules = build_rules (label_columns chains seqs) (link_columns s b c d) lent

  abbrev cover : Cover
  cover = cover_of (labels_of chains seqs) (links_of s b c d)

  by-rules : build_cover (label_columns chains seqs) (link_columns s b c d) lent ≡ unless rules cover
  unfolding build_cover build_rules
  by-rules = refl

  module _ (why : Refusal) (h : k ≡ Err why) where
    refusing : build_cover (label_columns chains seqs) (link_columns s b c d) lent ≡ refused why
    unfolding unless
    refusing = by-rules ∙ ap (λ o. unless o cover) (told rules e h)

    pub refused-told : Err why ≡ built_of (build_cover (label_columns chains seqs) (link_columns s b c d) lent)
    refused-told = answer-refused _ refusing

    pub refused-ranges : (o : RangeColumns) → o ≡ ranges_after (build_cover (label_columns chains seqs) (link_columns s b c d) lent) o
    refused-ranges o = ranges-kept _ o refusing

    pub refused-links : (o : LinkColumns) → o ≡ links_after (λ x. x.links) (build_cover (label_columns chains seqs) (link_columns s b c d) lent) o
    refused-links o = columns-kept _ _ why o refusing

  module _ (h : k ≡ Ok tt) where
    accepting : build_cover (label_columns chains seqs) (link_columns s b c d) lent ≡ accepted cover
    unfolding unless
    accepting = by-rules ∙ ap (λ o. unless o cover) (told-kept rules e h)

    pub built-told : (m n : ℕ) → m ≡ length (ranges_of (labels_of chains seqs)) → n ≡ length (sort_links (links_of s b c d))
        → Ok (m, n) ≡ built_of (build_cover (label_columns chains seqs) (link_columns s b c d) lent)
    unfolding cover_of
    built-told m n f g = answer-done _ cover m n accepting f g

    pub built-ranges : (o o' : RangeColumns) → o' ≡ ranges_over (ranges_of (labels_of chains seqs)) o → o' ≡ ranges_after (build_cover (label_columns chains seqs) (link_columns s b c d) lent) o
    unfolding cover_of
    built-ranges o o' f = ranges-written _ cover o o' accepting f

    pub built-links : (o o' : LinkColumns) → o' ≡ links_over (sort_links (links_of s b c d)) o
        → o' ≡ links_after (λ x. x.links) (build_cover (label_columns chains seqs) (link_columns s b c d) lent) o
    unfolding cover_of
    built-links o o' f = columns-written _ _ cover o o' accepting f
