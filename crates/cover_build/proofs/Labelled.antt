-- As many labels as the shorter column has, and the labels of the columns cut to that number.
use Rattle.std.proofs.Common.{◌≡◌, ℕ, ◌≤◌, min, List, [], ◌∷◌, length, take, sym, refl, ap, ◌∙◌, arith, length-take-le}
use Rattle.columns.specs.Reading.{Label, labels_of}
use Rattle.cover.specs.Chains.{ranges_of}
use Rattle.cover.specs.Answers.{RangeColumns}
use Rattle.cover_sort.specs.labels.Runs.{ranges_over}

pub labels-min : (cs ss : List ℕ) → min (length cs) (length ss) ≡ length (labels_of cs ss)
unfolding labels_of
labels-min [] ss = omega arith
labels-min (c ∷ cs) [] = omega arith
labels-min (c ∷ cs) (s ∷ ss) = omega (arith, labels-min cs ss)

least : (cs ss : List ℕ) → (length (labels_of cs ss) ≤ length cs) × (length (labels_of cs ss) ≤ length ss)
unfolding labels_of
least [] ss = (omega arith, omega arith)
least (c ∷ cs) [] = (omega arith, omega arith)
least (c ∷ cs) (s ∷ ss) = let o = least cs ss in (omega arith, omega arith)

fronts : (cs ss : List ℕ) → labels_of (take (length (labels_of cs ss)) cs) (take (length (labels_of cs ss)) ss) ≡ labels_of cs ss
unfolding labels_of
fronts [] ss = refl
fronts (c ∷ cs) [] = refl
fronts (c ∷ cs) (s ∷ ss) = ap (λ (ls : List Label). record { chain = c; seq = s } ∷ ls) (fronts cs ss)

module _ (n : ℕ) (cs ss : List ℕ) (e : n ≡ length (labels_of cs ss)) where
  in-chains : n ≤ length cs
  in-chains = let o = least cs ss in omega arith

  in-seqs : n ≤ length ss
  in-seqs = let o = least cs ss in omega arith

  chains-long : length (take n cs) ≡ n
  chains-long = length-take-le n cs in-chains

  seqs-long : length (take n ss) ≡ n
  seqs-long = length-take-le n ss in-seqs

  pub chains-count : n ≡ length (take n cs)
  chains-count = sym chains-long

  pub seqs-count : n ≡ length (take n ss)
  seqs-count = sym seqs-long

  pub fronts-even : length (take n ss) ≡ length (take n cs)
  fronts-even = seqs-long ∙ chains-count

  pub front-few : (m : ℕ) → length cs ≤ 1024 → 1024 ≤ m → length (take n cs) ≤ m
  front-few m h k = omega (arith, chains-long, in-chains)

  same : labels_of (take n cs) (take n ss) ≡ labels_of cs ss
  same = rw e (fronts cs ss)

  pub ranges-count : {r : ℕ} → r ≡ length (ranges_of (labels_of (take n cs) (take n ss))) → r ≡ length (ranges_of (labels_of cs ss))
  ranges-count f = f ∙ ap (λ ls. length (ranges_of ls)) same

  pub ranges-put : (o o' : RangeColumns) → o' ≡ ranges_over (ranges_of (labels_of (take n cs) (take n ss))) o → o' ≡ ranges_over (ranges_of (labels_of cs ss)) o
  ranges-put o o' f = f ∙ ap (λ ls. ranges_over (ranges_of ls) o) same
