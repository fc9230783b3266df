-- Document 01, "Chain cover": the labels of a group's rows, whether they keep rule 10, and their ranges; and the ranges of all groups one after the
-- other in one table.
use Rattle.std.specs.Prelude.{◌≡◌, Bool, true, false, cond, List, [], ◌∷◌, map, ℕ, suc, ◌+◌, ◌-◌, ◌*◌, ◌≤◌, ◌<◌, length, get_or, take, drop}
use Rattle.std.proofs.lemmas.List.Edits.{sets}
use Rattle.lists.specs.Lists.{flat, joined, up_from}
use Rattle.columns.specs.Limits.{end32}
use Rattle.columns.specs.Reading.{Label}
use Rattle.columns.specs.Building.{seqs_rise}
use Rattle.cover.specs.Chains.{Range, ranges_of}
use Rattle.archive_bytes.specs.Bytes.{several}
use Rattle.cleaning.specs.Sections.{place}
use Rattle.run_state.specs.declared.Groups.{Groups}
use Rattle.run_state.specs.View.{has_cover, listed}
use Rattle.run_section.specs.declared.Counts.{Counts}
use Rattle.run_section.specs.declared.covers.Covers.{Covers}
use Rattle.run_section.specs.declared.covers.Added.{Added}
use Rattle.run_section.specs.declared.covers.Ranges.{Ranges}
use Rattle.run_section.specs.Tables.{field, keys}

-- ── labels ───────────────────────────────────────────────────────────────────────────────────

-- the numbers at place k of n rows are of 32 bits
pub record Narrow (k n : ℕ) (rows : List ℕ) : Type 0 where
  pub small : (i : ℕ) → i < n → get_or rows (i * 4 + k) 0 < end32

-- so are the chains and seqs of n rows
pub record Labelled (n : ℕ) (rows : List ℕ) : Type 0 where
  pub chains : Narrow 2 n rows
  pub seqs : Narrow 3 n rows

-- the label that a row holds, whether or not its group has a cover
abbrev pub label_here : List ℕ → Label
label_here r = record { chain = field 2 r; seq = field 3 r }

-- the labels of n rows from row a on
unfoldable pub labels_from : List ℕ → ℕ → ℕ → List Label
labels_from rows a n = several 4 label_here n (drop (a * 4) rows)

-- where the rows of group g start
abbrev pub start_at : Counts → List ℕ → ℕ → ℕ
start_at z rows g = place g (keys 4 z.rows rows)

-- how many they are
abbrev pub rows_at : Counts → List ℕ → ℕ → ℕ
rows_at z rows g = start_at z rows (suc g) - start_at z rows g

-- the labels of group g's rows
unfoldable pub labels_at : Counts → List ℕ → ℕ → List Label
labels_at z rows g = labels_from rows (start_at z rows g) (rows_at z rows g)

-- ── covers ───────────────────────────────────────────────────────────────────────────────────

-- the ranges of group g, if it has a cover
unfoldable pub ranges_at : Counts → Groups → List ℕ → ℕ → List Range
ranges_at z groups rows g = cond (has_cover groups g) (ranges_of (labels_at z rows g)) []

-- rule 10 of group g: seqs rise along each chain
unfoldable pub rises_at : Counts → Groups → List ℕ → ℕ → Bool
rises_at z groups rows g = cond (has_cover groups g) (seqs_rise [] (labels_at z rows g)) true

-- the ranges of the first n groups, one after the other
unfoldable pub ranges_to : Counts → Groups → List ℕ → ℕ → List Range
ranges_to z groups rows n = joined (map (ranges_at z groups rows) (up_from 0 n))

-- a range as a record of a table
abbrev pub words : Range → List ℕ
words r = r.chain ∷ r.least ∷ r.greatest ∷ []

-- the covers of the first n groups: where the ranges of each start and those of the last end, the ranges, and rule 10
pub record CoversTo (z : Counts) (groups : Groups) (rows table : List ℕ) (n : ℕ) (ends : List ℕ) (rises : List Bool) : Type 0 where
  pub ends_at : (g : ℕ) → g ≤ n → get_or ends g 0 ≡ length (ranges_to z groups rows g)
  pub stored : take (3 * get_or ends n 0) table ≡ flat words (ranges_to z groups rows n)
  pub rises_where : (g : ℕ) → g < n → get_or rises g false ≡ rises_at z groups rows g
  pub few : (g : ℕ) → g ≤ n → get_or ends g 0 ≤ 1024

-- the covers of all groups
abbrev pub CoversAt : Counts → Groups → List ℕ → List ℕ → Covers → Type 0
CoversAt z groups rows table c = CoversTo z groups rows table groups.count c.ends c.rises

-- what is counted and tested of them
pub record CoversCounted (z : Counts) (groups : Groups) (rows : List ℕ) (c : Covers) : Type 0 where
  pub ends_rise : (g : ℕ) → g < groups.count → get_or c.ends g 0 ≤ get_or c.ends (g + 1) 0
  pub ends_count : (g : ℕ) → g < groups.count → get_or c.ends (g + 1) 0 - get_or c.ends g 0 ≡ length (ranges_at z groups rows g)
  pub ends_few : (g : ℕ) → g < groups.count → get_or c.ends (g + 1) 0 ≤ 1024
  pub rises_where : (g : ℕ) → g < groups.count → get_or c.rises g false ≡ rises_at z groups rows g

-- ── steps ────────────────────────────────────────────────────────────────────────────────────

-- the range at a place of three columns, and all of them
unfoldable pub range_in : Ranges → ℕ → Range
range_in r i = record { chain = get_or r.ids i 0; least = get_or r.minima i 0; greatest = get_or r.maxima i 0 }

unfoldable pub ranges_in : Ranges → List Range
ranges_in r = listed (range_in r) r.count

-- a table with ranges stored from record `at` on
unfoldable pub laid : ℕ → List Range → List ℕ → List ℕ
laid at rs table = sets table (3 * at) (flat words rs)

-- ranges, and whether seqs rise, added to a table
pub record AddedTo (rs : List Range) (rises : Bool) (was is : List ℕ) (at : ℕ) (a : Added) : Type 0 where
  pub count_is : a.count ≡ length rs
  pub rises_is : a.rises ≡ rises
  pub table_is : is ≡ laid at rs was
