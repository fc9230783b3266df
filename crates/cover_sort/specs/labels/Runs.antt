-- Labels as keys: the ranges of a column of keys in order, and range columns that ranges are written to.
use Rattle.std.specs.Prelude.{ℕ, ◌/◌, ◌%◌, cond, List, [], ◌∷◌, map, ◌==◌, slice_set}
use Rattle.std.proofs.lemmas.List.Edits.{sets}
use Rattle.columns.specs.Limits.{end32}
use Rattle.columns.specs.Reading.{Label}
use Rattle.cover.specs.Chains.{Range}
use Rattle.cover.specs.Answers.{RangeColumns, over}

-- the label of a key
abbrev pub label_of : ℕ → Label
label_of k = record { chain = k / end32; seq = k % end32 }

-- the range of a run of keys, by its first and its last
abbrev pub run_range : ℕ → ℕ → Range
run_range first last = record { chain = first / end32; least = first % end32; greatest = last % end32 }

-- the ranges of keys in order, of which a run has begun
unfoldable pub runs : ℕ → ℕ → List ℕ → List Range
runs first last [] = run_range first last ∷ []
runs first last (k ∷ ks) = cond (k / end32 == last / end32) (runs first k ks) (run_range first last ∷ runs k k ks)

-- the ranges of keys in order
unfoldable pub runs_of : List ℕ → List Range
runs_of [] = []
runs_of (k ∷ ks) = runs k k ks

-- a range stored at a place of three columns, and several from a place on
unfoldable pub put_range : ℕ → Range → RangeColumns → RangeColumns
put_range at r c = record { ids = slice_set c.ids at r.chain; minima = slice_set c.minima at r.least; maxima = slice_set c.maxima at r.greatest }

unfoldable pub put_ranges : ℕ → List Range → RangeColumns → RangeColumns
put_ranges at rs c = record {
  ids = sets c.ids at (map (λ r. r.chain) rs);
  minima = sets c.minima at (map (λ r. r.least) rs);
  maxima = sets c.maxima at (map (λ r. r.greatest) rs);
}

-- three columns with ranges stored from their start on; what lies past them stays
unfoldable pub ranges_over : List Range → RangeColumns → RangeColumns
ranges_over rs c = record {
  ids = over (map (λ r. r.chain) rs) c.ids;
  minima = over (map (λ r. r.least) rs) c.minima;
  maxima = over (map (λ r. r.greatest) rs) c.maxima;
}
