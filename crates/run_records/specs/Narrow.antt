-- Document 01, "Archive records": the numbers of a table's records that a file stores in fewer than 8 bytes.
use Rattle.std.specs.Prelude.{List, ℕ, ◌≤◌, ◌<◌, ◌+◌, ◌*◌, length, drop}
use Rattle.archive_bytes.specs.Bytes.{several, Wide}
use Rattle.run_section.specs.Tables.{field}

-- 4: the kinds and handles of n unresolved references
pub record NarrowUnresolved (n : ℕ) (table : List ℕ) : Type 0 where
  pub kinds : Wide 1 (several 3 (field 1) n table)
  pub handles : Wide 4 (several 3 (field 2) n table)

-- n records of width w from place q on are there, and the j-th number of each has 4 bytes
pub record HalfColumn (w j n q : ℕ) (table : List ℕ) : Type 0 where
  pub within : j < w
  pub there : q + n * w ≤ length table
  pub narrow : Wide 4 (several w (field j) n (drop q table))

-- 6: the labels of n rows
pub record LabelTable (n q : ℕ) (rows : List ℕ) : Type 0 where
  pub chains : HalfColumn 4 2 n q rows
  pub seqs : HalfColumn 4 3 n q rows

-- n ranges, whose numbers are all stored alike
pub record RangeTable (n q : ℕ) (ranges : List ℕ) : Type 0 where
  pub numbers : HalfColumn 1 0 (3 * n) q ranges

-- n links
pub record LinkTable (n q : ℕ) (links : List ℕ) : Type 0 where
  pub from_chains : HalfColumn 5 1 n q links
  pub from_seqs : HalfColumn 5 2 n q links
  pub to_chains : HalfColumn 5 3 n q links
  pub to_seqs : HalfColumn 5 4 n q links
