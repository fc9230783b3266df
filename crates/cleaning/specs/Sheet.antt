-- Rows of a run as a sheet of flat lists, the form in which a run holds its sources and, once resolved, its survivors. Document 01, "Cleaning":
-- what belongs to a row and to a group.
use Rattle.std.specs.Prelude.{Bool, true, false, cond, List, [], ◌∷◌, map, ℕ, ◌+◌, ◌*◌, eqb, length, get_or}
use Rattle.std.proofs.Math.Option.{Option, none, some}
use Rattle.lists.specs.Lists.{filter, part, up_from}
use Rattle.columns.specs.Reading.{Label}
use Rattle.columns.specs.Building.{Depth}
use Rattle.cover.specs.Chains.{Link}
use Rattle.archive.specs.File.{Unresolved, Root}
use Rattle.cleaning.specs.Archive.{Body, Group, root_in, references_in}
use Rattle.cleaning.specs.Summary.{Kept, kept, Summary}

-- what is known of a group as a whole, but for its links
pub record Facts : Type 0 where
  pub depth : Option Depth
  pub covered : Bool

-- a link of a group
pub record GroupLink : Type 0 where
  pub group : ℕ
  pub link : Link

-- rows in the order of their numbers, which count from the start: the group, tag and label of each, their parents slot by slot, their records
pub record Sheet : Type 0 where
  pub start : ℕ
  pub subject : List ℕ
  pub groups : List Facts
  pub row_groups : List ℕ
  pub tags : List ℕ
  pub labels : List (Option Label)
  pub lists : List (List ℕ)
  pub unresolved : List Unresolved
  pub roots : List Root
  pub links : List GroupLink

-- how many rows there are
abbrev pub row_count : Sheet → ℕ
row_count s = length s.tags

-- what follows the i-th row
unfoldable pub body_at : Sheet → ℕ → Body
body_at s i = record {
  group = get_or s.row_groups i 0;
  tag = get_or s.tags i 0;
  label = get_or s.labels i none;
  root = root_in s.roots i;
  unresolved = references_in s.unresolved (s.start + i);
}

-- the i-th row's parents, a list for each kind
unfoldable pub parents_at : (K : ℕ) → Sheet → ℕ → List (List ℕ)
parents_at K s i = part (K * i) K s.lists

-- the links of a group, in order
unfoldable pub links_of : List GroupLink → ℕ → List Link
links_of ls g = map (λ l. l.link) (filter (λ l. eqb l.group g) ls)

-- the groups of a number and the following ones
unfoldable pub groups_from : List GroupLink → ℕ → List Facts → List Group
groups_from ls g [] = []
groups_from ls g (f ∷ fs) = record { depth = f.depth; links = cond f.covered (some (links_of ls g)) none } ∷ groups_from ls (1 + g) fs

unfoldable pub groups_of_sheet : Sheet → List Group
groups_of_sheet s = groups_from s.links 0 s.groups

-- the summary that a sheet of survivors holds
unfoldable pub summary_of : (K : ℕ) → Sheet → Summary
summary_of K s = record {
  start = s.start;
  subject = s.subject;
  groups = groups_of_sheet s;
  rows = map (λ i. kept (body_at s i) (parents_at K s i)) (up_from 0 (row_count s));
}
