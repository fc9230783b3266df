-- What has to hold of what is held and of a file for the file to be stored.
use mathlib.Core.Path.{◌≡◌}
use mathlib.Core.Bool.{true}
use mathlib.Core.Logic.{◌⊎◌}
use mathlib.Core.Option.{Option, none, some}
use Prim.Native.Nat.{ℕ, ◌≤◌, ◌<◌, ◌+◌}
use lib.ListN.{length, get_or}
use Rattle.columns.specs.Limits.{kinds}
use Rattle.columns.specs.EdgeSet.{EdgeSet, offsets_form}
use Rattle.archive.specs.File.{CoverColumns, File}
use Rattle.archive.specs.Parse.{depth_read}
use Rattle.cleaning.specs.Source.{is_there}
use Rattle.run_state.specs.declared.Rows.{Rows}
use Rattle.run_state.specs.declared.Edges.{Edges}
use Rattle.run_state.specs.declared.Unresolved.{Unresolved}
use Rattle.run_state.specs.declared.Roots.{Roots}
use Rattle.run_state.specs.declared.Links.{Links}
use Rattle.run_state.specs.declared.Sheet.{Sheet}
use Rattle.run_state.specs.declared.Held.{Held}
use Rattle.run_state.specs.View.{has_cover}
use Rattle.run_state.specs.Valid.{edges_ok}
use Rattle.run_store.proofs.joined.GroupTable.{Table}
use Rattle.run_store.proofs.joined.LinkRecords.{LinkRoom}
use Rattle.run_store.proofs.joined.RowLabels.{Labelled}

-- the lists of n rows are in form, a set of a file of some rows is too, and there is room for both
pub record SetFit (n rows : ℕ) (e : Edges) (s : EdgeSet) : Type 0 where
  pub held : edges_ok n e ≡ true
  pub form : offsets_form kinds rows s.count s.offsets ≡ true
  pub counted : length s.deltas ≡ s.count
  pub few : e.count + s.count ≤ 4096
  pub long : length e.offsets ≡ 2049
  pub wide : length e.targets ≡ 4096

pub record RowFit (r : Rows) (n : ℕ) : Type 0 where
  pub room : r.count + n ≤ 1024
  pub groups : length r.groups ≡ 1024
  pub tags : length r.tags ≡ 1024
  pub chains : length r.chains ≡ 1024
  pub seqs : length r.seqs ≡ 1024

pub record RecordFit (u : Unresolved) (n : ℕ) : Type 0 where
  pub children : u.count + n ≤ length u.children
  pub kinds : u.count + n ≤ length u.kinds
  pub handles : u.count + n ≤ length u.handles

pub record RootFit (r : Roots) (n : ℕ) : Type 0 where
  pub rows : r.count + n ≤ length r.rows
  pub handles : r.count + n ≤ length r.handles

-- link columns are equal in number, and there is room for them
abbrev pub LinkFit : Links → Option CoverColumns → Type 0
LinkFit l none = Unit {0}
LinkFit l (some c) =
    (length c.links.from_seqs ≡ length c.links.from_chains) × (length c.links.to_chains ≡ length c.links.from_chains)
    × (length c.links.to_seqs ≡ length c.links.from_chains) × LinkRoom l (length c.links.from_chains)

-- the group of a file is the last one or one more, and agrees with it on the cover
pub record SheetFit (s : Sheet) (f : File) (flag least greatest : ℕ) : Type 0 where
  pub subject : length f.subject ≤ length s.subject.bytes
  pub depth : f.depth ≡ depth_read flag least greatest
  pub table : Table s.groups f.group
  pub group : (f.group ≡ s.groups.count) ⊎ (f.group + 1 ≡ s.groups.count)
  pub cover : f.group < s.groups.count → has_cover s.groups f.group ≡ is_there f.cover
  pub known : (i : ℕ) → i < s.rows.count → get_or s.rows.groups i 0 < s.groups.count
  pub rows : RowFit s.rows (length f.rows)
  pub labels : Labelled f.cover (length f.rows)
  pub forward : SetFit s.rows.count (length f.rows) s.edges f.forward
  pub unresolved : RecordFit s.unresolved (length f.unresolved)
  pub roots : RootFit s.roots (length f.roots)
  pub links : LinkFit s.links f.cover

pub record HeldFit (h : Held) (f : File) (flag least greatest : ℕ) : Type 0 where
  pub sheet : SheetFit h.sheet f flag least greatest
  pub erased : h.sheet.rows.count + length f.rows ≤ length h.erased
  pub reverse : SetFit h.sheet.rows.count (length f.rows) h.reverse f.reverse
  pub inbound : SetFit h.sheet.rows.count (length f.rows) h.inbound f.inbound
