-- Columns in order, as tests that compute: the groups of rows and of links do not fall and are there, roots rise, the children of unresolved
-- records do not fall. With those of specs/Valid they make a sheet tidy: proofs/order/TidySheets.
use Rattle.std.specs.Prelude.{Bool, ◌&&◌, List, ℕ, take}
use Rattle.lists.specs.Lists.{all}
use Rattle.lists.specs.Order.{rising, not_falling}
use Rattle.cleaning.specs.Sections.{reaches}
use Rattle.run_state.specs.declared.Sheet.{Sheet}
use Rattle.run_state.specs.Valid.{below}
use Rattle.run_state.specs.declared.order.Counts.{Counts}

-- groups of which there are n: none falls, each is there
unfoldable pub groups_ordered : ℕ → ℕ → List ℕ → Bool
groups_ordered n count groups = not_falling (take count groups) && all (below n) (take count groups)

-- the columns of a sheet, by the numbers that their tests go by
abbrev pub counts_in : Sheet → Counts
counts_in s = record { groups = s.groups.count; rows = s.rows.count; links = s.links.count; roots = s.roots.count; unresolved = s.unresolved.count }

unfoldable pub columns_ordered : Counts → List ℕ → List ℕ → List ℕ → List ℕ → Bool
columns_ordered z rows links roots children =
    groups_ordered z.groups z.rows rows
    && (groups_ordered z.groups z.links links && (rising (take z.roots roots) && not_falling (take z.unresolved children)))

unfoldable pub ordered : Sheet → Bool
ordered s =
    groups_ordered s.groups.count s.rows.count s.rows.groups
    && (groups_ordered s.groups.count s.links.count s.links.groups
    && (rising (take s.roots.count s.roots.rows) && not_falling (take s.unresolved.count s.unresolved.children)))

-- every group has a row
unfoldable pub filled : Sheet → Bool
filled s = reaches s.groups.count 0 (take s.rows.count s.rows.groups)
