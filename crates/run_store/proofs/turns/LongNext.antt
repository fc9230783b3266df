-- A file more leaves every column as long as it was.
use mathlib.Core.Path.{◌≡◌}
use mathlib.Core.Bool.{Bool, true, false, cond}
use mathlib.Core.List.{List}
use mathlib.Core.Option.{Option, none, some}
use Prim.Native.Nat.{ℕ}
use lib.Dec.{eqb}
use lib.ListN.{length, length-set}
use lib.Seq.{length-sets}
use Rattle.columns.specs.EdgeSet.{EdgeSet}
use Rattle.archive.specs.File.{CoverColumns, File}
use Rattle.archive.specs.File as file
use Rattle.run_state.specs.declared.Subject.{Subject}
use Rattle.run_state.specs.declared.Groups.{Groups}
use Rattle.run_state.specs.declared.Rows.{Rows}
use Rattle.run_state.specs.declared.Edges.{Edges}
use Rattle.run_state.specs.declared.Unresolved.{Unresolved}
use Rattle.run_state.specs.declared.Roots.{Roots}
use Rattle.run_state.specs.declared.Links.{Links}
use Rattle.run_state.specs.declared.Held.{Held}
use Rattle.run_state.specs.order.Long.{LongGroups, LongRows, LongEdges, LongUnresolved, LongRoots, LongLinks, LongHeld}
use Rattle.run_store.specs.parts.Grown.{rows_with, labels_with, edges_with, unresolved_with, roots_with, links_with, groups_new, groups_joined, groups_with, subject_new}
use Rattle.run_store.specs.joined.Joined.{labels_more, links_more, sheet_more, held_more}

long-subject : {m : ℕ} (b : Bool) (s : Subject) (ys : List ℕ) → length s.bytes ≡ m → length (cond b (subject_new s ys) s).bytes ≡ m
unfolding subject_new
long-subject true s ys h = simp length-sets h
long-subject false s ys h = h

long-groups : (g : Groups) (n flag least greatest : ℕ) (covered : Bool) → LongGroups g → LongGroups (groups_with g n flag least greatest covered)
unfolding groups_with groups_new groups_joined
long-groups g n flag least greatest covered h = go (eqb n g.count)
  where
    go : (b : Bool) → LongGroups (cond b (groups_new g n flag least greatest covered) (groups_joined g n flag least greatest))
    go true = record { known = simp length-set h.known; least = simp length-set h.least; greatest = simp length-set h.greatest; covered = simp length-set h.covered }
    go false = record { known = simp length-set h.known; least = simp length-set h.least; greatest = simp length-set h.greatest; covered = h.covered }

long-rows : (r : Rows) (group : ℕ) (rows : List file.Row) (at : ℕ) (c : Option CoverColumns) → LongRows r → LongRows (labels_more (rows_with r group rows) at c)
unfolding labels_more labels_with rows_with
long-rows r group rows at none h = record { groups = simp length-sets h.groups; tags = simp length-sets h.tags; chains = h.chains; seqs = h.seqs }
long-rows r group rows at (some c) h =
    record { groups = simp length-sets h.groups; tags = simp length-sets h.tags; chains = simp length-sets h.chains; seqs = simp length-sets h.seqs }

long-edges : (e : Edges) (n first : ℕ) (s : EdgeSet) → LongEdges e → LongEdges (edges_with e n first s)
unfolding edges_with
long-edges e n first s h = record { offsets = simp length-sets h.offsets; targets = simp length-sets h.targets }

long-unresolved : (u : Unresolved) (us : List file.Unresolved) → LongUnresolved u → LongUnresolved (unresolved_with u us)
unfolding unresolved_with
long-unresolved u us h = record { children = simp length-sets h.children; kinds_given = simp length-sets h.kinds_given; handles = simp length-sets h.handles }

long-roots : (r : Roots) (n : ℕ) (rs : List file.Root) → LongRoots r → LongRoots (roots_with r n rs)
unfolding roots_with
long-roots r n rs h = record { rows = simp length-sets h.rows; handles = simp length-sets h.handles }

long-links : (k : Links) (group : ℕ) (c : Option CoverColumns) → LongLinks k → LongLinks (links_more k group c)
unfolding links_more links_with
long-links k group none h = h
long-links k group (some c) h = record {
  groups = simp length-sets h.groups;
  from = record { chains = simp length-sets h.from.chains; seqs = simp length-sets h.from.seqs };
  to = record { chains = simp length-sets h.to.chains; seqs = simp length-sets h.to.seqs };
}

pub long-more : (h : Held) (f : File) (flag least greatest : ℕ) → LongHeld h → LongHeld (held_more h f flag least greatest)
unfolding held_more sheet_more
long-more h f flag least greatest g =
    let s = g.sheet in
    record {
      sheet = record {
        subject = long-subject (eqb h.sheet.groups.count 0) h.sheet.subject f.subject s.subject;
        groups = long-groups h.sheet.groups f.group flag least greatest _ s.groups;
        rows = long-rows h.sheet.rows f.group f.rows _ f.cover s.rows;
        edges = long-edges h.sheet.edges _ f.first f.forward s.edges;
        unresolved = long-unresolved h.sheet.unresolved f.unresolved s.unresolved;
        roots = long-roots h.sheet.roots _ f.roots s.roots;
        links = long-links h.sheet.links f.group f.cover s.links;
      };
      erased = simp length-sets g.erased;
      reverse = long-edges h.reverse _ f.first f.reverse g.reverse;
      inbound = long-edges h.inbound _ f.first f.inbound g.inbound;
    }
