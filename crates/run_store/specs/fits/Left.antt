-- What is left of 42, 43 and the files' rules for the files of an archive that are not stored yet, as counts of the columns.
use Rattle.std.specs.Prelude.{◌≡◌, ◌≤◌, ◌+◌, length}
use mathlib.Core.List.{List, map, foldl}
use Rattle.std.proofs.Math.Option.{none}
use Rattle.columns.specs.Limits.{kinds}
use Rattle.lists.specs.Lists.{sum, add, up_from}
use Rattle.archive.specs.File.{File}
use Rattle.cleaning.specs.Taking.{stored_ranges, stored_link_count, files_rules}
use Rattle.cleaning.specs.Held.{look_back}
use Rattle.run_state.specs.declared.Held.{Held}
use Rattle.run_state.specs.View.{sheet_in}

pub record Left (h : Held) (fs : List File) : Type 0 where
  pub rows : h.sheet.rows.count + sum (λ f. length f.rows) fs ≤ 1024
  pub roots : h.sheet.roots.count + sum (λ f. length f.roots) fs ≤ 1024
  pub unresolved : h.sheet.unresolved.count + sum (λ f. length f.unresolved) fs ≤ 1024
  pub ranges : h.ranges + sum (λ f. stored_ranges f.cover) fs ≤ 1024
  pub links : h.sheet.links.count + sum (λ f. stored_link_count f.cover) fs ≤ 1024
  pub groups : length (foldl add (up_from 0 h.sheet.groups.count) (map (λ f. f.group) fs)) ≤ 16
  pub forward : h.sheet.edges.count + sum (λ f. length f.forward.deltas) fs ≤ 4096
  pub reverse : h.reverse.count + sum (λ f. length f.reverse.deltas) fs ≤ 4096
  pub inbound : h.inbound.count + sum (λ f. length f.inbound.deltas) fs ≤ 4096
  pub rules : files_rules kinds (look_back (sheet_in h.sheet)) fs ≡ none
