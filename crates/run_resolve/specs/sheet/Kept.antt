-- Document 01, "Cleaning": what the columns of the survivors hold of a run's columns.
use Rattle.std.specs.Prelude.{◌≡◌, List, ℕ, take}
use Rattle.run_state.specs.declared.Rows.{Rows}
use Rattle.run_state.specs.declared.Unresolved.{Unresolved}
use Rattle.run_state.specs.declared.Roots.{Roots}
use Rattle.run_compact.specs.Columns.{survive, kept_in}

-- the rows that survive
pub record RowsKept (flags : List ℕ) (r q : Rows) : Type 0 where
  pub count : q.count ≡ survive flags
  pub groups : take q.count q.groups ≡ kept_in flags (take r.count r.groups)
  pub tags : take q.count q.tags ≡ kept_in flags (take r.count r.tags)
  pub chains : take q.count q.chains ≡ kept_in flags (take r.count r.chains)
  pub seqs : take q.count q.seqs ≡ kept_in flags (take r.count r.seqs)

-- the unresolved records that survive, by the flags of the records
pub record UnresolvedKept (flags : List ℕ) (u q : Unresolved) : Type 0 where
  pub count : q.count ≡ survive flags
  pub children : take q.count q.children ≡ kept_in flags (take u.count u.children)
  pub kinds : take q.count q.kinds ≡ kept_in flags (take u.count u.kinds)
  pub handles : take q.count q.handles ≡ kept_in flags (take u.count u.handles)

-- the roots that survive, by the flags of the records
pub record RootsKept (flags : List ℕ) (r q : Roots) : Type 0 where
  pub count : q.count ≡ survive flags
  pub rows : take q.count q.rows ≡ kept_in flags (take r.count r.rows)
  pub handles : take q.count q.handles ≡ kept_in flags (take r.count r.handles)
