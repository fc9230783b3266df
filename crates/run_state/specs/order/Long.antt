-- How long the columns of a run are.
use Rattle.std.specs.Prelude.{◌≡◌, length}
use Rattle.columns.specs.Limits.{kinds, max_records, max_numbers, max_groups, max_subject, offsets_room}
use Rattle.run_state.specs.declared.Groups.{Groups}
use Rattle.run_state.specs.declared.Rows.{Rows}
use Rattle.run_state.specs.declared.Edges.{Edges}
use Rattle.run_state.specs.declared.Unresolved.{Unresolved}
use Rattle.run_state.specs.declared.Roots.{Roots}
use Rattle.run_state.specs.declared.Ends.{Ends}
use Rattle.run_state.specs.declared.Links.{Links}
use Rattle.run_state.specs.declared.Sheet.{Sheet}
use Rattle.run_state.specs.declared.Held.{Held}

pub record LongGroups (g : Groups) : Type 0 where
  pub known : length g.known ≡ max_groups
  pub least : length g.least ≡ max_groups
  pub greatest : length g.greatest ≡ max_groups
  pub covered : length g.covered ≡ max_groups

pub record LongRows (r : Rows) : Type 0 where
  pub groups : length r.groups ≡ max_records
  pub tags : length r.tags ≡ max_records
  pub chains : length r.chains ≡ max_records
  pub seqs : length r.seqs ≡ max_records

pub record LongEdges (e : Edges) : Type 0 where
  pub offsets : length e.offsets ≡ offsets_room kinds
  pub targets : length e.targets ≡ max_numbers

pub record LongUnresolved (u : Unresolved) : Type 0 where
  pub children : length u.children ≡ max_records
  pub kinds_given : length u.kinds ≡ max_records
  pub handles : length u.handles ≡ max_records

pub record LongRoots (r : Roots) : Type 0 where
  pub rows : length r.rows ≡ max_records
  pub handles : length r.handles ≡ max_records

pub record LongEnds (e : Ends) : Type 0 where
  pub chains : length e.chains ≡ max_records
  pub seqs : length e.seqs ≡ max_records

pub record LongLinks (l : Links) : Type 0 where
  pub groups : length l.groups ≡ max_records
  pub from : LongEnds l.from
  pub to : LongEnds l.to

pub record LongSheet (s : Sheet) : Type 0 where
  pub subject : length s.subject.bytes ≡ max_subject
  pub groups : LongGroups s.groups
  pub rows : LongRows s.rows
  pub edges : LongEdges s.edges
  pub unresolved : LongUnresolved s.unresolved
  pub roots : LongRoots s.roots
  pub links : LongLinks s.links

pub record LongHeld (h : Held) : Type 0 where
  pub sheet : LongSheet h.sheet
  pub erased : length h.erased ≡ max_records
  pub reverse : LongEdges h.reverse
  pub inbound : LongEdges h.inbound
