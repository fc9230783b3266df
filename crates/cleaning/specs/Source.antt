-- Document 01, "Cleaning": a source, which is what a run keeps of a file that it has taken, its columns read.
use Rattle.std.specs.Prelude.{Bool, true, false, List, ℕ, ◌+◌, length}
use Rattle.std.proofs.Math.Option.{Option, none, some}
use Rattle.columns.specs.Reading.{Label, labels_of, slots_of}
use Rattle.columns.specs.Building.{Depth}
use Rattle.cover.specs.Chains.{Link}
use Rattle.cover.specs.Cover.{stored_links}
use Rattle.archive.specs.File.{Row, Unresolved, Root, CoverColumns, File}

-- a cover as read: labels, links, and the number of ranges, which counts for 42 and for nothing else
pub record SourceCover : Type 0 where
  pub labels : List Label
  pub ranges : ℕ
  pub links : List Link

-- the lists of the three sets stand slot by slot
pub record Source : Type 0 where
  pub first : ℕ
  pub group : ℕ
  pub subject : List ℕ
  pub depth : Option Depth
  pub forward : List (List ℕ)
  pub reverse : List (List ℕ)
  pub inbound : List (List ℕ)
  pub rows : List Row
  pub unresolved : List Unresolved
  pub roots : List Root
  pub cover : Option SourceCover

abbrev pub cover_read : Option CoverColumns → Option SourceCover
cover_read none = none
cover_read (some c) = some (record { labels = labels_of c.labels.chains c.labels.seqs; ranges = length c.ranges; links = stored_links c.links })

-- a file with its columns read
unfoldable pub source_of : (K : ℕ) → File → Source
source_of K f = record {
  first = f.first;
  group = f.group;
  subject = f.subject;
  depth = f.depth;
  forward = slots_of K f.first f.forward;
  reverse = slots_of K f.first f.reverse;
  inbound = slots_of K f.first f.inbound;
  rows = f.rows;
  unresolved = f.unresolved;
  roots = f.roots;
  cover = cover_read f.cover;
}

-- one past a source's last number
abbrev pub end_of : Source → ℕ
end_of s = s.first + length s.rows

-- whether there is a cover
abbrev pub is_there : {A : Type 0} → Option A → Bool
is_there none = false
is_there (some c) = true

abbrev pub range_count : Option SourceCover → ℕ
range_count none = 0
range_count (some c) = c.ranges

abbrev pub link_count : Option SourceCover → ℕ
link_count none = 0
link_count (some c) = length c.links
