-- What is asked of a file for it to be stored: its parts are there, and there is room for them.
use Rattle.std.specs.Prelude.{◌≡◌, Bool, true, false, List, ℕ, ◌+◌, ◌≤◌, ◌<◌, drop}
use Rattle.columns.specs.Limits.{kinds}
use Rattle.columns.specs.Readable.{Readable}
use Rattle.archive_bytes.specs.Bytes.{be, several, column}
use Rattle.cover.specs.Cover.{sums_fit}
use Rattle.archive_read.specs.bodies.View.{links_place}
use Rattle.archive_read.specs.Layout.{part_in, HoldsFile}
use Rattle.archive_read.specs.declared.records.FrontAt.{FrontAt}
use Rattle.archive_read.specs.declared.records.TailAt.{TailAt}
use Rattle.archive_read.specs.declared.records.FileAt.{FileAt}
use Rattle.run_store.specs.grow.Column.{Small}
use Rattle.run_store.specs.parts.Grown.{set_at}
use Rattle.run_state.specs.declared.Sheet.{Sheet}
use Rattle.run_state.specs.declared.Held.{Held}

-- a set of k deltas that starts at place p of an edges record keeps its rules, and there is room for it after c numbers and the lists of n rows
pub record SetRoom (c n : ℕ) (l : List ℕ) (f : FrontAt) (p k : ℕ) : Type 0 where
  pub rows : n + f.head.rows ≤ 1024
  pub few : c + k ≤ 4096
  pub readable : Readable kinds f.head.first (set_at (part_in l f.sets) f.head.rows p k)

-- the links of a cover are sums that fit
abbrev pub SumsIn : Bool → List ℕ → ℕ → TailAt → Type 0
SumsIn false l rows t = Unit {0}
SumsIn true l rows t = sums_fit (column 4 t.cover.links (part_in l t.body) (links_place rows t.cover.ranges + 4)) ≡ true

pub record SheetRoom (s : Sheet) (l : List ℕ) (f : FileAt) : Type 0 where
  pub subject : f.front.head.subject ≤ 255
  pub group : f.front.head.group < 16
  pub groups : s.groups.count ≤ 16
  pub rows : s.rows.count + f.front.head.rows ≤ 1024
  pub forward : SetRoom s.edges.count s.rows.count l f.front 0 f.front.edges.forwards
  pub unresolved : s.unresolved.count + f.middle.count ≤ 1024
  pub roots : s.roots.count + f.tail.count ≤ 1024
  pub inside : Small (several 16 (λ l. be 8 l 0) f.tail.count (drop 4 (part_in l f.tail.roots)))
  pub links : s.links.count + f.tail.cover.links ≤ 1024
  pub ranges : f.tail.cover.ranges ≤ 1024
  pub sums : SumsIn f.tail.covered l f.front.head.rows f.tail

pub record HeldRoom (h : Held) (l : List ℕ) (f : FileAt) : Type 0 where
  pub holds : HoldsFile l f
  pub sheet : SheetRoom h.sheet l f
  pub reverse : SetRoom h.reverse.count h.sheet.rows.count l f.front f.front.edges.reverse f.front.edges.reverses
  pub inbound : SetRoom h.inbound.count h.sheet.rows.count l f.front f.front.edges.inbound f.front.edges.inbounds
  pub ranges : h.ranges + f.tail.cover.ranges ≤ 1024
