-- Document 01, "Cleaning": what the columns of the survivors' sheet hold of a run's sheet.
use Rattle.std.specs.Prelude.{◌≡◌, List, ℕ, ◌≤◌}
use Rattle.cleaning.specs.Survivors.{keep_unresolved, keep_roots, sort_groups}
use Rattle.run_state.specs.declared.Edges.{Edges}
use Rattle.run_state.specs.declared.Sheet.{Sheet}
use Rattle.run_state.specs.View.{listed, unresolved_at, root_at, link_at}
use Rattle.run_compact.specs.Columns.{gone}
use Rattle.run_resolve.specs.sheet.Kept.{RowsKept}

-- the survivors of a sheet, by the flags of its rows and the survivors' lists
pub record SheetKept (flags : List ℕ) (e : Edges) (s r : Sheet) : Type 0 where
  pub start : r.start ≡ s.start
  pub subject : r.subject ≡ s.subject
  pub groups : r.groups ≡ s.groups
  pub rows : RowsKept flags s.rows r.rows
  pub edges : r.edges ≡ e
  pub unresolved : listed (unresolved_at r.unresolved) r.unresolved.count ≡ keep_unresolved s.start (gone flags) (listed (unresolved_at s.unresolved) s.unresolved.count)
  pub unresolved_few : r.unresolved.count ≤ s.unresolved.count
  pub roots : listed (root_at r.roots) r.roots.count ≡ keep_roots (gone flags) (listed (root_at s.roots) s.roots.count)
  pub roots_few : r.roots.count ≤ s.roots.count
  pub links : listed (link_at r.links) r.links.count ≡ sort_groups s.groups.count (listed (link_at s.links) s.links.count)
  pub links_few : r.links.count ≤ 1024
