-- The parts of a sheet in order, as the functions that keep its columns ask for them.
use mathlib.Core.Path.{◌≡◌}
use mathlib.Core.Bool.{true}
use mathlib.Core.List.{List}
use Prim.Native.Nat.{ℕ, ◌+◌, ◌-◌, ◌^◌, ◌≤◌, ◌<◌}
use native.Mathlib.Omega.{arith}
use lib.Dec.{leb, ltb}
use lib.ListN.{length, take}
use borrow.Author.Tests.{leb-true, ltb-true}
use Rattle.lists.specs.Lists.{all}
use Rattle.lists.specs.Order.{not_falling}
use Rattle.lists.proofs.Tests.{both}
use Rattle.columns.specs.Limits.{max_records, max_groups, max_subject, end64}
use Rattle.columns.specs.Building.{in_file}
use Rattle.run_state.specs.declared.Sheet.{Sheet}
use Rattle.run_state.specs.Valid.{edges_ok, counts_ok, below, records_ok, sheet_ok}
use Rattle.run_state.specs.order.Ordered.{groups_ordered, ordered}
use Rattle.run_state.specs.order.Long.{LongSheet}
use Rattle.run_state.proofs.order.Turns.{rows_few, children-few, roots_few, links_few}

module _ (s : Sheet) (ok : sheet_ok s ≡ true) where
  counted : counts_ok s ≡ true
  unfolding sheet_ok
  counted = (both (counts_ok s) _ ok).0

  inside : records_ok s ≡ true
  unfolding sheet_ok
  inside = (both (records_ok s) _ (both (edges_ok s.rows.count s.edges) _ (both (counts_ok s) _ ok).1).1).0

  groups-few : leb s.groups.count max_groups ≡ true
  unfolding counts_ok
  groups-few = (both (leb s.groups.count max_groups) _ (both (leb s.subject.length max_subject) _ counted).1).0

  end_below : ltb (s.start + s.rows.count) end64 ≡ true
  unfolding counts_ok
  end_below =
      (both (leb s.links.count max_records) _ (both (leb s.roots.count max_records) _ (both (leb s.unresolved.count max_records) _ (both (leb s.rows.count max_records) _
      (both (leb s.groups.count max_groups) _ (both (leb s.subject.length max_subject) _ counted).1).1).1).1).1).1

  pub part-rows : s.rows.count ≤ 1024
  part-rows = rows_few s counted

  pub part-unresolved : s.unresolved.count ≤ 1024
  part-unresolved = children-few s counted

  pub part-roots : s.roots.count ≤ 1024
  part-roots = roots_few s counted

  pub part-links : s.links.count ≤ 1024
  part-links = links_few s counted

  pub part-groups : s.groups.count ≤ 16
  part-groups = leb-true s.groups.count max_groups groups-few

  module _ (flags : List ℕ) (n : length flags ≡ s.rows.count) where
    pub flags-few : length flags ≤ 1024
    flags-few = omega (arith, n, part-rows)

    pub flags-end : s.start + length flags ≤ 2 ^ 64 - 1
    flags-end = let t : s.start + s.rows.count < 2 ^ 64 = ltb-true (s.start + s.rows.count) end64 end_below in omega (arith, n, t)

    pub children-here : all (in_file s.start (s.start + length flags)) (take s.unresolved.count s.unresolved.children) ≡ true
    unfolding records_ok
    children-here = rw n (both (all (in_file s.start (s.start + s.rows.count)) (take s.unresolved.count s.unresolved.children)) _ inside).0

    pub roots-here : all (below (length flags)) (take s.roots.count s.roots.rows) ≡ true
    unfolding records_ok
    roots-here = rw n (both (all (in_file s.start (s.start + s.rows.count)) (take s.unresolved.count s.unresolved.children)) _ inside).1

pub children-long : (s : Sheet) → LongSheet s → length s.unresolved.children ≡ 1024
children-long s l = l.unresolved.children

pub roots-long : (s : Sheet) → LongSheet s → length s.roots.rows ≡ 1024
roots-long s l = l.roots.rows

pub links-level : (s : Sheet) → ordered s ≡ true → not_falling (take s.links.count s.links.groups) ≡ true
unfolding ordered groups_ordered
links-level s o =
    (both (not_falling (take s.links.count s.links.groups)) _ (both (groups_ordered s.groups.count s.links.count s.links.groups) _
    (both (groups_ordered s.groups.count s.rows.count s.rows.groups) _ o).1).0).0
