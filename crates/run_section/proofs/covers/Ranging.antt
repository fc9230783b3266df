-- The ranges of labels: three columns stand for the ranges that are written to them, of which there are no more than labels.
use mathlib.Core.Path.{◌≡◌, ap, sym, ◌∙◌}
use mathlib.Core.List.{List, [], ◌∷◌, map}
use Prim.Native.Nat.{ℕ, ◌≤◌, ◌<◌}
use native.Mathlib.Nat.{zero-add}
use native.Mathlib.Omega.{arith}
use lib.ListN.{length, get_or, take, drop, length-take, length-map, get_or-map, get_or-append}
use lib.Seq.{length-take-le}
use Rattle.lists.proofs.Filters.{map-places}
use Rattle.columns.specs.Reading.{labels_of}
use Rattle.cover.specs.Chains.{Range, ranges_of}
use Rattle.cover.specs.Answers.{range_columns, range, over}
use Rattle.cover_sort.specs.labels.Runs.{ranges_over}
use Rattle.cleaning.proofs.OutputFigures as labels
use Rattle.run_section.specs.declared.covers.Ranges.{Ranges}
use Rattle.run_section.specs.Covers.{range_in, ranges_in}

-- ── the first n of columns ───────────────────────────────────────────────────────────────────

module _ (n : ℕ) (xs : List ℕ) (h : n ≤ 1024) (l : length xs ≡ 1024) where
  pub front-count : n ≡ length (take n xs)
  front-count = sym (length-take-le n xs (omega arith))

  pub front-in : n ≤ length xs
  front-in = omega arith

  pub front-few : length (take n xs) ≤ 1024
  front-few = omega (arith, front-count)

  pub front-room : (out : List ℕ) → length out ≡ 1024 → length (take n xs) ≤ length out
  front-room out m = omega (arith, front-count)

  pub fronts-even : (ys : List ℕ) → length ys ≡ 1024 → length (take n ys) ≡ length (take n xs)
  fronts-even ys m = length-take-le n ys (omega arith) ∙ front-count

-- ── how many there are ───────────────────────────────────────────────────────────────────────

labels-few : (cs ss : List ℕ) → length (labels_of cs ss) ≤ length cs
unfolding labels_of
labels-few [] ss = omega arith
labels-few (c ∷ cs) [] = omega arith
labels-few (c ∷ cs) (s ∷ ss) = omega (arith, labels-few cs ss)

pub ranges-few : (xs ss : List ℕ) (m n : ℕ) → n ≡ length (ranges_of (labels_of (take m xs) ss)) → n ≤ m
ranges-few xs ss m n e = omega (arith, labels.ranges-few (labels_of (take m xs) ss), labels-few (take m xs) ss, length-take m xs)

-- ── what they are ────────────────────────────────────────────────────────────────────────────

over-at : (f : Range → ℕ) (rs : List Range) (d : Range) (old : List ℕ) (j : ℕ) → j < length rs → get_or (over (map f rs) old) j (f d) ≡ f (get_or rs j d)
unfolding over
over-at f rs d old j h = get_or-append (map f rs) (drop (length (map f rs)) old) (f d) j (omega (arith, length-map rs f)) ∙ get_or-map f rs j d

pub ranges-read : (rs : List Range) (n : ℕ) (a b c a' b' c' : List ℕ) → n ≡ length rs
    → range_columns a b c ≡ ranges_over rs (range_columns a' b' c') → ranges_in (record { count = n; ids = a; minima = b; maxima = c }) ≡ rs
unfolding ranges_in range_in ranges_over
ranges-read rs n a b c a' b' c' e f =
    let r : Ranges = record { count = n; ids = a; minima = b; maxima = c } in
    let d = range 0 0 0 in
    let p : a ≡ over (map (λ x. x.chain) rs) a' = ap (λ x. x.ids) f in
    let q : b ≡ over (map (λ x. x.least) rs) b' = ap (λ x. x.minima) f in
    let o : c ≡ over (map (λ x. x.greatest) rs) c' = ap (λ x. x.maxima) f in
    ap (λ k. ranges_in (record { count = k; ids = a; minima = b; maxima = c })) e
    ∙ map-places (range_in r) 0 rs d
    (λ j h. rw (zero-add j, p, q, o, over-at (λ x. x.chain) rs d a' j h, over-at (λ x. x.least) rs d b' j h, over-at (λ x. x.greatest) rs d c' j h))
