-- Document 01, "Archive records": what the records of a table stand for in an output file.
use Rattle.std.specs.Prelude.{List, map, ℕ, ◌-◌}
use Rattle.columns.specs.Reading.{Label}
use Rattle.cover.specs.Chains.{Range}
use Rattle.cover.specs.Cover.{columns_of}
use Rattle.archive_bytes.specs.Bytes.{several}
use Rattle.archive.specs.File.{Row, Root, CoverColumns}
use Rattle.cleaning.specs.Sections.{unerased_row}
use Rattle.cleaning.specs.Writing.{label_columns}
use Rattle.run_section.specs.Tables.{field, root_in, link_in}

-- 3: a row, which is not erased
abbrev pub row_in : List ℕ → Row
row_in r = unerased_row (field 1 r)

-- 5: a root whose row counts from `low`
abbrev pub root_above : ℕ → Root → Root
root_above low r = record { row = r.row - low; handle = r.handle }

abbrev pub root_above_in : ℕ → List ℕ → Root
root_above_in low r = root_above low (root_in r)

-- 6: the label of a row that has one; a range: chain, least, greatest
abbrev pub row_label : List ℕ → Label
row_label r = record { chain = field 2 r; seq = field 3 r }

abbrev pub range_in : List ℕ → Range
range_in r = record { chain = field 0 r; least = field 1 r; greatest = field 2 r }

-- the cover of n rows, k ranges and l links
abbrev pub cover_in : ℕ → List ℕ → ℕ → List ℕ → ℕ → List ℕ → CoverColumns
cover_in n rows k ranges l links = record {
  labels = label_columns (several 4 row_label n rows);
  ranges = several 3 range_in k ranges;
  links = columns_of (map (λ x. x.link) (several 5 link_in l links));
}
