-- The columns of a run with a file more: what a file adds to each is written from the column's count on.
use Rattle.std.specs.Prelude.{Bool, cond, List, map, ℕ, ◌+◌, ◌*◌, ltb, eqb, length, get_or, set, drop}
use Rattle.std.proofs.lemmas.List.Edits.{sets}
use Rattle.lists.specs.Lists.{joined}
use Rattle.columns.specs.Limits.{kinds}
use Rattle.columns.specs.EdgeSet.{EdgeSet}
use Rattle.columns.specs.Reading.{slots_of}
use Rattle.columns.specs.Answers.{columns_of}
use Rattle.archive_bytes.specs.Bytes.{column, signed_of}
use Rattle.cover.specs.Cover.{sums}
use Rattle.archive.specs.File
use Rattle.run_store.specs.grow.Column.{bit}
use Rattle.run_state.specs.declared.Subject.{Subject}
use Rattle.run_state.specs.declared.Groups.{Groups}
use Rattle.run_state.specs.declared.Rows.{Rows}
use Rattle.run_state.specs.declared.Edges.{Edges}
use Rattle.run_state.specs.declared.Unresolved as records
use Rattle.run_state.specs.declared.Roots.{Roots}
use Rattle.run_state.specs.declared.Links.{Links}

-- groups and tags of rows
unfoldable pub rows_with : Rows → ℕ → List File.Row → Rows
rows_with r group rows = record {
  count = r.count + length rows;
  groups = sets r.groups r.count (map (λ x. group) rows);
  tags = sets r.tags r.count (map (λ x. x.tag) rows);
  chains = r.chains;
  seqs = r.seqs;
}

-- chains and seqs of rows from a place on
unfoldable pub labels_with : Rows → ℕ → List ℕ → List ℕ → Rows
labels_with r at chains seqs =
    record { count = r.count; groups = r.groups; tags = r.tags; chains = sets r.chains at chains; seqs = sets r.seqs at seqs }

-- the set of k deltas whose columns start at place p of an edges record
abbrev pub set_at : List ℕ → ℕ → ℕ → ℕ → EdgeSet
set_at l rows p k = columns_of k (column 8 (kinds * rows + 1) l (p + 4)) (map signed_of (column 8 k l (p + 4 + (kinds * rows + 1) * 8)))

-- the lists of a set of a file that starts at `first`, after those of n rows
unfoldable pub edges_with : Edges → ℕ → ℕ → EdgeSet → Edges
edges_with e n first s = record {
  count = e.count + s.count;
  offsets = sets e.offsets (kinds * n + 1) (map (λ o. e.count + o) (drop 1 s.offsets));
  targets = sets e.targets e.count (joined (slots_of kinds first s));
}

unfoldable pub unresolved_with : records.Unresolved → List File.Unresolved → records.Unresolved
unresolved_with u us = record {
  count = u.count + length us;
  children = sets u.children u.count (map (λ x. x.child) us);
  kinds = sets u.kinds u.count (map (λ x. x.kind) us);
  handles = sets u.handles u.count (map (λ x. x.handle) us);
}

-- roots of rows that stand after n others
unfoldable pub roots_with : Roots → ℕ → List File.Root → Roots
roots_with r n rs = record {
  count = r.count + length rs;
  rows = sets r.rows r.count (map (λ x. n + x.row) rs);
  handles = sets r.handles r.count (map (λ x. x.handle) rs);
}

-- links by their four stored columns, the first of differences
unfoldable pub links_with : Links → ℕ → List ℕ → List ℕ → List ℕ → List ℕ → Links
links_with l group ds bs cs es = record {
  count = l.count + length ds;
  groups = sets l.groups l.count (map (λ x. group) ds);
  from = record { chains = sets l.from.chains l.count (sums 0 ds); seqs = sets l.from.seqs l.count bs };
  to = record { chains = sets l.to.chains l.count cs; seqs = sets l.to.seqs l.count es };
}

abbrev pub smaller : ℕ → ℕ → ℕ
smaller a b = cond (ltb b a) b a

abbrev pub greater : ℕ → ℕ → ℕ
greater a b = cond (ltb a b) b a

-- a group's facts where it is new
unfoldable pub groups_new : Groups → ℕ → ℕ → ℕ → ℕ → Bool → Groups
groups_new g n flag least greatest covered = record {
  count = g.count + 1;
  known = set g.known n (bit (eqb flag 1));
  least = set g.least n least;
  greatest = set g.greatest n greatest;
  covered = set g.covered n (bit covered);
}

-- a group's facts joined to those that are there: the depth is known where both are
unfoldable pub groups_joined : Groups → ℕ → ℕ → ℕ → ℕ → Groups
groups_joined g n flag least greatest = record {
  count = g.count;
  known = set g.known n (cond (eqb flag 1) (get_or g.known n 0) 0);
  least = set g.least n (smaller (get_or g.least n 0) least);
  greatest = set g.greatest n (greater (get_or g.greatest n 0) greatest);
  covered = g.covered;
}

unfoldable pub groups_with : Groups → ℕ → ℕ → ℕ → ℕ → Bool → Groups
groups_with g n flag least greatest covered =
    cond (eqb n g.count) (groups_new g n flag least greatest covered) (groups_joined g n flag least greatest)

-- a subject from the front of its column on
unfoldable pub subject_new : Subject → List ℕ → Subject
subject_new s bytes = record { length = length bytes; bytes = sets s.bytes 0 bytes }
