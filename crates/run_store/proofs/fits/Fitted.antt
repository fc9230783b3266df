-- A file that keeps its rules, after what is held, fits: its parts can be stored, and what they leave stands for the source more.
use mathlib.Core.Path.{◌≡◌, refl, sym, ◌∙◌}
use mathlib.Core.Bool.{Bool, true, false, cond}
use mathlib.Core.List.{List, [], ◌∷◌, map}
use mathlib.Core.Option.{Option, none, some}
use Prim.Native.Nat.{ℕ, ◌+◌, ◌≤◌, ◌<◌}
use native.Mathlib.Omega.{arith}
use lib.Dec.{leb, ltb}
use lib.ListN.{length, take, drop, length-drop}
use lib.Seq.{length-take-le}
use borrow.Author.Tests.{leb-true}
use Rattle.lists.specs.Lists.{sum}
use Rattle.lists.proofs.Tests.{both}
use Rattle.lists.proofs.Each.{each_map, each-imp}
use Rattle.lists.proofs.Flat.{length-map-up_from}
use Rattle.columns.specs.Limits.{kinds, max_groups, max_subject}
use Rattle.columns.proofs.Served.{kinds-served}
use Rattle.columns.specs.EdgeSet.{EdgeSet, forward, reverse, inbound}
use Rattle.columns.specs.Reading.{set_rules}
use Rattle.columns.specs.Readable.{Readable}
use Rattle.columns.specs.Building.{subject_ok}
use Rattle.columns.specs.declared.refusal.Refusal.TheVariants.{CoverForm}
use Rattle.columns.proofs.FirstBroken.{each_none, passed}
use Rattle.columns.proofs.Checks.{kept-form}
use Rattle.archive_bytes.specs.Bytes.{be, several}
use Rattle.archive_bytes.proofs.Several.{map-several}
use Rattle.cover.specs.Cover.{even_columns, sums_fit, links_ok, link_rules, range_rules}
use Rattle.archive.specs.File.{CoverColumns, File}
use Rattle.archive.specs.Parse.{depth_read, root_at}
use Rattle.archive.proofs.Back.{length-several}
use Rattle.archive_read.specs.bodies.View.{head_in, set_in, sets_in, cover_in}
use Rattle.archive_read.specs.Layout.{part_in, front_in, middle_in, tail_in, file_from, file_in, HoldsFile, Uncovers}
use Rattle.archive_read.specs.declared.records.FileAt.{FileAt}
use Rattle.archive_read.proofs.AtFiles.{rows_counted, forward-counted, reverse-counted, inbound-counted, ranges-counted, links-counted}
use Rattle.cleaning.specs.Source.{Source, source_of}
use Rattle.cleaning.specs.Taking.{file_end, stored_ranges, stored_link_count, cover_rules, file_rules, files_rules}
use Rattle.cleaning.specs.Held.{look_back}
use Rattle.cleaning.proofs.Taken.{Sound, taken-followed}
use Rattle.cleaning.proofs.HeldRows.{Ready}
use Rattle.cleaning.proofs.Neat.{Neat}
use Rattle.run_state.specs.declared.Edges.{Edges}
use Rattle.run_state.specs.declared.Held.{Held}
use Rattle.run_state.specs.View.{facts_at, sheet_in, held_in}
use Rattle.run_state.specs.Valid.{edges_ok, counts_ok, sheet_ok, held_ok}
use Rattle.run_state.specs.order.Long.{LongEdges, LongHeld}
use Rattle.run_store.specs.grow.Column.{Small}
use Rattle.run_store.proofs.joined.Fitting.{SetFit, LinkFit, HeldFit}
use Rattle.run_store.proofs.joined.RowLabels.{Labelled}
use Rattle.run_store.proofs.joined.HeldOk.{SheetSound}
use Rattle.run_store.proofs.joined.Next.{group-is, cover_is, known_is, sheet-sound}
use Rattle.run_store.specs.file.Fits.{SetRoom, SumsIn, HeldRoom}
use Rattle.run_store.specs.fits.Left.{Left}
use Rattle.run_store.proofs.fits.LooksBack.{ready_held, group-below}

depth_is : (l : List ℕ) (f : FileAt) → (file_in l f).depth ≡ depth_read f.front.head.flag f.front.head.least f.front.head.greatest
unfolding file_in file_from front_in head_in
depth_is l f = refl

-- ── covers ───────────────────────────────────────────────────────────────────────────────────

labelled : (t : Bool) (n : ℕ) (c : CoverColumns) → length c.labels.chains ≡ n → length c.labels.seqs ≡ n → Labelled (cond t (some c) none) n
labelled true n c e g = (e, g)
labelled false n c e g = tt

sums-fit : (c : CoverColumns) → cover_rules (some c) ≡ none → sums_fit c.links.from_chains ≡ true
unfolding link_rules links_ok
sums-fit c e =
    let p = passed CoverForm (links_ok c.links) (each_none (range_rules c.ranges ∷ link_rules c.links ∷ []) e).1.0 in
    (both (sums_fit c.links.from_chains) _ (both (even_columns c.links) _ p).1).0

module _ (h : Held) (l : List ℕ) (f : FileAt) (fs : List File) (long : LongHeld h) (ok : held_ok h ≡ true) (neat : Neat kinds (held_in h)) (left : Left h (file_in l f ∷ fs))
    (holds : HoldsFile l f) (u : Uncovers f.tail.covered f.tail.cover) where
  abbrev F : File
  F = file_in l f

  abbrev n : ℕ
  n = h.sheet.rows.count

  abbrev before : Option Source
  before = look_back (sheet_in h.sheet)

  rules : file_rules kinds before F ≡ none
  unfolding files_rules
  rules = (each_none (file_rules kinds before F ∷ files_rules kinds (some (source_of kinds F)) fs ∷ []) left.rules).0

  pub sound : Sound kinds (source_of kinds F)
  sound = (taken-followed kinds kinds-served before (F ∷ fs) left.rules).0

  pub next : Ready kinds (held_in h) (source_of kinds F)
  unfolding held_in
  next = ready_held (held_in h) neat (source_of kinds F) (taken-followed kinds kinds-served before (F ∷ fs) left.rules).1

  -- ── what is held ─────────────────────────────────────────────────────────────────────────────

  held-parts : (sheet_ok h.sheet ≡ true) × (edges_ok n h.reverse ≡ true) × (edges_ok n h.inbound ≡ true)
  unfolding held_ok
  held-parts = let a = both (sheet_ok h.sheet) _ ok in let b = both (edges_ok n h.reverse) _ a.1 in (a.0, b.0, b.1)

  sheet-parts : (counts_ok h.sheet ≡ true) × (edges_ok n h.sheet.edges ≡ true)
  unfolding sheet_ok
  sheet-parts = let a = both (counts_ok h.sheet) _ held-parts.0 in (a.0, (both (edges_ok n h.sheet.edges) _ a.1).0)

  groups-few : h.sheet.groups.count ≤ 16
  unfolding counts_ok
  groups-few = let a = both (leb h.sheet.subject.length max_subject) _ sheet-parts.0 in
      leb-true h.sheet.groups.count max_groups (both (leb h.sheet.groups.count max_groups) _ a.1).0

  -- ── the file ─────────────────────────────────────────────────────────────────────────────────

  rows-room : n + length F.rows ≤ 1024
  unfolding sum
  rows-room = omega (arith, left.rows)

  rows_are : length F.rows ≡ f.front.head.rows
  rows_are = rows_counted l f

  groups-held : length (held_in h).sheet.groups ≡ h.sheet.groups.count
  unfolding held_in sheet_in
  groups-held = length-map-up_from (facts_at h.sheet.groups) 0 h.sheet.groups.count

  group-few : F.group < 16
  unfolding source_of
  group-few = group-below h.sheet.groups.count F.group 16 (map (λ x. x.group) fs) (omega (arith, next.within, groups-held)) (omega (arith, next.last, groups-held)) left.groups

  subject-short : length F.subject ≤ 255
  unfolding source_of subject_ok
  subject-short = leb-true (length F.subject) max_subject (both (ltb 0 (length F.subject)) _ sound.subject).1

  forward_kept : set_rules kinds forward F.first (length F.rows) (file_end F) F.forward ≡ none
  unfolding file_rules
  forward_kept = (each_none (_ ∷ _) rules).1.1.1.1.1.1.0

  reverse_kept : set_rules kinds reverse F.first (length F.rows) (file_end F) F.reverse ≡ none
  unfolding file_rules
  reverse_kept = (each_none (_ ∷ _) rules).1.1.1.1.1.1.1.0

  inbound_kept : set_rules kinds inbound F.first (length F.rows) (file_end F) F.inbound ≡ none
  unfolding file_rules
  inbound_kept = (each_none (_ ∷ _) rules).1.1.1.1.1.1.1.1.0

  cover-kept : cover_rules F.cover ≡ none
  unfolding file_rules
  cover-kept = (each_none (_ ∷ _) rules).1.1.1.1.1.1.1.1.1.1.1.0

  -- ── sets ─────────────────────────────────────────────────────────────────────────────────────

  module _ (set : ℕ) (e : Edges) (s : EdgeSet) (kept : set_rules kinds set F.first (length F.rows) (file_end F) s ≡ none) (c : length s.deltas ≡ s.count)
      (room : e.count + length s.deltas ≤ 4096) where
    set-fit : edges_ok n e ≡ true → LongEdges e → SetFit n (length F.rows) e s
    set-fit k g = record { held = k; form = kept-form kinds set F.first (length F.rows) (file_end F) s kept; counted = c; few = omega arith; long = g.offsets; wide = g.targets }

    readable : Readable kinds F.first s
    readable = record { set = set; rows = length F.rows; end = file_end F; kept = kept; few = omega arith }

  forward_room : h.sheet.edges.count + length F.forward.deltas ≤ 4096
  unfolding sum
  forward_room = omega (arith, left.forward)

  reverse_room : h.reverse.count + length F.reverse.deltas ≤ 4096
  unfolding sum
  reverse_room = omega (arith, left.reverse)

  inbound_room : h.inbound.count + length F.inbound.deltas ≤ 4096
  unfolding sum
  inbound_room = omega (arith, left.inbound)

  pub forward-even : length F.forward.deltas ≡ F.forward.count
  unfolding file_in file_from front_in sets_in set_in
  forward-even = forward-counted l f

  pub reverse-even : length F.reverse.deltas ≡ F.reverse.count
  unfolding file_in file_from front_in sets_in set_in
  reverse-even = reverse-counted l f

  pub inbound-even : length F.inbound.deltas ≡ F.inbound.count
  unfolding file_in file_from front_in sets_in set_in
  inbound-even = inbound-counted l f

  forward-fits : SetRoom h.sheet.edges.count n l f.front 0 f.front.edges.forwards
  unfolding file_in file_from front_in sets_in set_in head_in
  forward-fits = record {
    rows = omega (arith, rows-room, rows_are);
    few = omega (arith, forward_room, forward-counted l f);
    readable = readable forward h.sheet.edges F.forward forward_kept forward-even forward_room;
  }

  reverse-fits : SetRoom h.reverse.count n l f.front f.front.edges.reverse f.front.edges.reverses
  unfolding file_in file_from front_in sets_in set_in head_in
  reverse-fits = record {
    rows = omega (arith, rows-room, rows_are);
    few = omega (arith, reverse_room, reverse-counted l f);
    readable = readable reverse h.reverse F.reverse reverse_kept reverse-even reverse_room;
  }

  inbound-fits : SetRoom h.inbound.count n l f.front f.front.edges.inbound f.front.edges.inbounds
  unfolding file_in file_from front_in sets_in set_in head_in
  inbound-fits = record {
    rows = omega (arith, rows-room, rows_are);
    few = omega (arith, inbound_room, inbound-counted l f);
    readable = readable inbound h.inbound F.inbound inbound_kept inbound-even inbound_room;
  }

  -- ── records ──────────────────────────────────────────────────────────────────────────────────

  unresolved-room : h.sheet.unresolved.count + length F.unresolved ≤ 1024
  unfolding sum
  unresolved-room = omega (arith, left.unresolved)

  roots-room : h.sheet.roots.count + length F.roots ≤ 1024
  unfolding sum
  roots-room = omega (arith, left.roots)

  ranges_room : h.ranges + stored_ranges F.cover ≤ 1024
  unfolding sum
  ranges_room = omega (arith, left.ranges)

  links-room : h.sheet.links.count + stored_link_count F.cover ≤ 1024
  unfolding sum
  links-room = omega (arith, left.links)

  roots-small : Small (several 16 (λ b. be 8 b 0) f.tail.count (drop 4 (part_in l f.tail.roots)))
  unfolding file_in file_from tail_in root_at source_of
  roots-small =
      let z : map (λ r. r.row) F.roots ≡ several 16 (λ b. be 8 b 0) f.tail.count (drop 4 (part_in l f.tail.roots)) =
      map-several 16 root_at (λ r. r.row) f.tail.count (drop 4 (part_in l f.tail.roots)) in
      rw (← z) (each_map (λ x. x ≤ 1024) (λ r. r.row) F.roots
      (each-imp (λ r. r.row < length F.rows) (λ r. r.row ≤ 1024) F.roots (λ r t. omega (arith, rows-room)) sound.roots))

  sums-in : SumsIn f.tail.covered l f.front.head.rows f.tail
  unfolding file_in file_from tail_in cover_in
  sums-in = go f.tail.covered cover-kept
    where
      go : (t : Bool) → cover_rules (cond t (some (cover_in (part_in l f.tail.body) f.front.head.rows f.tail.cover)) none) ≡ none
          → SumsIn t l f.front.head.rows f.tail
      go true e = sums-fit (cover_in (part_in l f.tail.body) f.front.head.rows f.tail.cover) e
      go false e = tt

  labels-are : Labelled F.cover (length F.rows)
  unfolding file_in file_from tail_in cover_in
  labels-are = rw rows_are (labelled f.tail.covered f.front.head.rows (cover_in (part_in l f.tail.body) f.front.head.rows f.tail.cover)
      (length-several _ _ _ _) (length-several _ _ _ _))

  subject-is : f.front.head.subject ≤ 255
  unfolding file_in file_from front_in head_in
  subject-is =
      let b = part_in l f.front.file in
      let k = f.front.head.subject in
      let e : length (take k (drop 14 b)) ≡ k = length-take-le k (drop 14 b) (rw (length-drop 14 b) (omega (arith, holds.head.long))) in
      omega (arith, subject-short)

  unresolved-counted : length F.unresolved ≡ f.middle.count
  unfolding file_in file_from middle_in
  unresolved-counted = length-several _ _ _ _

  roots-counted : length F.roots ≡ f.tail.count
  unfolding file_in file_from tail_in
  roots-counted = length-several _ _ _ _

  -- ── all of it ────────────────────────────────────────────────────────────────────────────────

  pub held-room : HeldRoom h l f
  unfolding file_in file_from front_in head_in middle_in tail_in
  held-room = record {
    holds = holds;
    sheet = record {
      subject = subject-is;
      group = group-few;
      groups = groups-few;
      rows = omega (arith, rows-room, rows_are);
      forward = forward-fits;
      unresolved = omega (arith, unresolved-room, unresolved-counted);
      roots = omega (arith, roots-room, roots-counted);
      inside = roots-small;
      links = omega (arith, links-room, links-counted l f u);
      ranges = omega (arith, ranges_room, ranges-counted l f u);
      sums = sums-in;
    };
    reverse = reverse-fits;
    inbound = inbound-fits;
    ranges = omega (arith, ranges_room, ranges-counted l f u);
  }

  link-fit : LinkFit h.sheet.links F.cover
  unfolding file_in file_from tail_in cover_in
  link-fit = go f.tail.covered links-room
    where
      go : (t : Bool) → h.sheet.links.count + stored_link_count (cond t (some (cover_in (part_in l f.tail.body) f.front.head.rows f.tail.cover)) none) ≤ 1024
          → LinkFit h.sheet.links (cond t (some (cover_in (part_in l f.tail.body) f.front.head.rows f.tail.cover)) none)
      go true r =
          let k = h.sheet.links in
          let g = long.sheet.links in
          let c : CoverColumns = cover_in (part_in l f.tail.body) f.front.head.rows f.tail.cover in
          let m : length c.links.from_chains ≡ f.tail.cover.links = length-several _ _ _ _ in (
            length-several _ _ _ _ ∙ sym m,
            length-several _ _ _ _ ∙ sym m,
            length-several _ _ _ _ ∙ sym m,
            record { groups = rw g.groups r; chains = rw g.from.chains r; seqs = rw g.from.seqs r; to_chains = rw g.to.chains r; to_seqs = rw g.to.seqs r },
          )
      go false r = tt

  pub flags_long : n ≤ length h.erased
  flags_long = omega (arith, rows-room, long.erased)

  pub held_fit : HeldFit h F f.front.head.flag f.front.head.least f.front.head.greatest
  unfolding held_in
  held_fit = record {
    sheet = record {
      subject = rw long.sheet.subject subject-short;
      depth = depth_is l f;
      table = record {
        known = rw long.sheet.groups.known group-few;
        least = rw long.sheet.groups.least group-few;
        greatest = rw
            long.sheet.groups.greatest group-few;
        covers = rw long.sheet.groups.covered group-few;
      };
      group = group-is h F flags_long next;
      cover = cover_is h F flags_long next;
      known = known_is h F flags_long next (omega (arith, rows-room, long.sheet.rows.groups)) neat.tidy.groups_known;
      rows = record { room = rows-room; groups = long.sheet.rows.groups; tags = long.sheet.rows.tags; chains = long.sheet.rows.chains; seqs = long.sheet.rows.seqs };
      labels = labels-are;
      forward = set-fit forward h.sheet.edges F.forward forward_kept forward-even forward_room sheet-parts.1 long.sheet.edges;
      unresolved = record {
        children = rw long.sheet.unresolved.children unresolved-room;
        kinds = rw long.sheet.unresolved.kinds_given unresolved-room;
        handles = rw long.sheet.unresolved.handles unresolved-room;
      };
      roots = record { rows = rw long.sheet.roots.rows roots-room; handles = rw long.sheet.roots.handles roots-room };
      links = link-fit;
    };
    erased = rw long.erased rows-room;
    reverse = set-fit reverse h.reverse F.reverse reverse_kept reverse-even reverse_room held-parts.1 long.reverse;
    inbound = set-fit inbound h.inbound F.inbound inbound_kept inbound-even inbound_room held-parts.2 long.inbound;
  }

  pub held_sound : SheetSound h.sheet F
  held_sound = sheet-sound h F flags_long next sound (record { group = group-few; unresolved = unresolved-room; roots = roots-room; links = links-room })
