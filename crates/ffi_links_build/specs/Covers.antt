-- A cover built of labels and of links as records: what the call answers and leaves, told of the links that they mean.
use Rattle.std.specs.Prelude.{◌≡◌, List, [], ◌∷◌, ℕ, length}
use Rattle.columns.specs.Refusal.{Verdict, refused, accepted, unless, first_of, limits}
use Rattle.columns.specs.Reading.{Labels, labels_of}
use Rattle.cover.specs.Chains.{Link}
use Rattle.cover.specs.Cover.{LinkColumns, Cover, cover_of}
use Rattle.cover.specs.Answers.{RangeColumns, for_records, links_after}
use Rattle.cover_build.specs.Built.{built_of, ranges_after}
use Rattle.ffi_cover.specs.Numbers.{covered_of}
use Rattle.ffi_cover.specs.declared.covers.Covered.{Covered}

-- `ChainCover::build`, from label columns and links in any order, for lent slices of these lengths
unfoldable pub build_lent : Labels → List Link → List ℕ → Verdict Cover
build_lent l ls rooms =
    unless (first_of (limits (length l.chains ∷ length l.seqs ∷ length ls ∷ []) [] (for_records rooms) ∷ [])) (cover_of (labels_of l.chains l.seqs) ls)

-- the links of the cover that a call answers
unfoldable pub links_in : Verdict Cover → Verdict (List Link)
links_in (refused r) = refused r
links_in (accepted c) = accepted c.links

-- what a build over columns answers by a verdict, and what it makes of the lent columns
pub record Wrote (v : Verdict Cover) (r : Covered) (ranges ranges' : RangeColumns) (links links' : LinkColumns) : Type 0 where
  pub answer : r ≡ covered_of (built_of v)
  pub leaves : ranges' ≡ ranges_after v ranges
  pub writes : links' ≡ links_after (λ c. c.links) v links
