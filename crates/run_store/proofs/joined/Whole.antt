-- The columns with a file more stand for what is held with a source more.
use mathlib.Core.Path.{◌≡◌, refl, sym, ◌∙◌, ap}
use mathlib.Core.Bool.{Bool, true, false, cond}
use mathlib.Core.List.{List, ◌++◌, map, append-nil}
use mathlib.Core.Option.{Option, none, some}
use Prim.Native.Nat.{ℕ, zero, suc, ◌≤◌, ◌+◌}
use native.Mathlib.Nat.{zero-add}
use native.Mathlib.Omega.{arith}
use lib.Dec.{eqb}
use lib.ListN.{length, take}
use lib.Seq.{sets, length-take-le}
use borrow.Author.Tests.{ne_eqb}
use Rattle.columns.specs.Limits.{kinds}
use Rattle.lists.specs.Lists.{is_empty, up_from}
use Rattle.columns.specs.Reading.{Label, slots_of}
use Rattle.columns.specs.EdgeSet.{EdgeSet}
use Rattle.cover.specs.Cover.{stored_links}
use Rattle.archive.specs.File
use Rattle.archive.specs.File.{CoverColumns, File}
use Rattle.cleaning.specs.Source.{source_of, cover_read, is_there, range_count}
use Rattle.cleaning.specs.Taking.{stored_ranges}
use Rattle.cleaning.proofs.Taken.{there-read}
use Rattle.cleaning.specs.Archive.{label_in}
use Rattle.run_store.specs.grow.Column.{bit}
use Rattle.cleaning.specs.Sheet
use Rattle.cleaning.specs.Sheet.{Facts, GroupLink}
use Rattle.cleaning.specs.Held
use Rattle.cleaning.specs.Held.{links_in, shifted, sheet_with, held_with}
use Rattle.run_state.specs.declared.Subject.{Subject}
use Rattle.run_state.specs.declared.Rows.{Rows}
use Rattle.run_state.specs.declared.Edges.{Edges}
use Rattle.run_state.specs.declared.Links.{Links}
use Rattle.run_state.specs.declared.Sheet as sheets
use Rattle.run_state.specs.declared.Held as holds
use Rattle.run_state.specs.View.{flagged, listed, facts_at, label_at, unresolved_at, root_at, link_at, slots_in, sheet_in, held_in}
use Rattle.run_store.specs.parts.Grown.{rows_with, labels_with, edges_with, unresolved_with, roots_with, links_with, groups_with, subject_new}
use Rattle.run_store.specs.joined.Joined.{labels_more, links_more, sheet_more, held_more}
use Rattle.run_store.proofs.joined.Grows.{sets-take}
use Rattle.run_store.proofs.joined.Records.{column-grown, flags-grown, unresolved-grown, roots-grown}
use Rattle.run_store.proofs.joined.LinkRecords.{links-grown}
use Rattle.run_store.proofs.joined.GroupTable.{groups-grown, covers-stay, cover-here}
use Rattle.run_store.proofs.joined.RowLabels.{labels-grown}
use Rattle.run_store.proofs.joined.Lists.{slots-grown}
use Rattle.run_store.proofs.joined.Fitting.{SetFit, LinkFit, SheetFit, HeldFit}

-- ── parts that depend on the cover or on whether a group is there ────────────────────────────

module _ (r : Rows) (at : ℕ) where
  pub more-count : (c : Option CoverColumns) → (labels_more r at c).count ≡ r.count
  unfolding labels_more labels_with
  more-count none = refl
  more-count (some c) = refl

  more-groups : (c : Option CoverColumns) → (labels_more r at c).groups ≡ r.groups
  unfolding labels_more labels_with
  more-groups none = refl
  more-groups (some c) = refl

  more-tags : (c : Option CoverColumns) → (labels_more r at c).tags ≡ r.tags
  unfolding labels_more labels_with
  more-tags none = refl
  more-tags (some c) = refl

ranges-read : (c : Option CoverColumns) → stored_ranges c ≡ range_count (cover_read c)
ranges-read none = refl
ranges-read (some c) = refl

pub empty-listed : {A : Type 0} (f : ℕ → A) (n : ℕ) → eqb n 0 ≡ is_empty (listed f n)
unfolding is_empty up_from
empty-listed f zero = refl
empty-listed f (suc n) = ne_eqb (suc n) 0 (λ e. omega arith)

subject-more : (b : Bool) (s : Subject) (bytes : List ℕ) → length bytes ≤ length s.bytes
    → take (cond b (subject_new s bytes) s).length (cond b (subject_new s bytes) s).bytes ≡ cond b bytes (take s.length s.bytes)
unfolding subject_new
subject-more true s bytes h = sets-take bytes s.bytes 0 (length bytes) (zero-add (length bytes)) h
subject-more false s bytes h = refl

links-more : (l : Links) (group : ℕ) (c : Option CoverColumns) → LinkFit l c
    → listed (link_at (links_more l group c)) (links_more l group c).count ≡ listed (link_at l) l.count ++ map (λ k. record { group = group; link = k }) (links_in (cover_read c))
unfolding links_more links_with stored_links
links-more l group none fit = sym (append-nil (listed (link_at l) l.count))
links-more l group (some c) fit =
    links-grown l group c.links.from_chains c.links.from_seqs c.links.to_chains c.links.to_seqs fit.0 fit.1 fit.2 fit.3

pub slots-more : (n rows first m : ℕ) (e : Edges) (s : EdgeSet) → SetFit n rows e s → n + rows ≤ 1024 → m ≡ n + rows
    → slots_in m (edges_with e n first s) ≡ slots_in n e ++ slots_of kinds first s
slots-more n rows first m e s fit room z =
    ap (λ i. slots_in i (edges_with e n first s)) z ∙ slots-grown n rows first e s fit.held fit.form fit.counted fit.few room fit.long fit.wide

-- ── a sheet ──────────────────────────────────────────────────────────────────────────────────

same-sheet : {a a' : ℕ} {b b' : List ℕ} {c c' : List Facts} {d d' e e' : List ℕ} {f f' : List (Option Label)} {g g' : List (List ℕ)}
    {h h' : List File.Unresolved} {i i' : List File.Root} {j j' : List GroupLink}
    → a ≡ a' → b ≡ b' → c ≡ c' → d ≡ d' → e ≡ e' → f ≡ f' → g ≡ g' → h ≡ h' → i ≡ i' → j ≡ j'
    → ◌≡◌ {A = Sheet.Sheet} (record { start = a; subject = b; groups = c; row_groups = d; tags = e; labels = f; lists = g; unresolved = h; roots = i; links = j })
    (record { start = a'; subject = b'; groups = c'; row_groups = d'; tags = e'; labels = f'; lists = g'; unresolved = h'; roots = i'; links = j' })
same-sheet p q r s t u v w x y = rw (p, q, r, s, t, u, v, w, x, y)

module _ (s : sheets.Sheet) (f : File) (flag least greatest : ℕ) (fit : SheetFit s f flag least greatest) where
  abbrev n : ℕ
  n = s.rows.count

  abbrev pub grown_rows : Rows
  grown_rows = labels_more (rows_with s.rows f.group f.rows) n f.cover

  abbrev grown_groups : ℕ → Facts
  grown_groups = facts_at (groups_with s.groups f.group flag least greatest (is_there f.cover))

  pub rows-count : grown_rows.count ≡ n + length f.rows
  unfolding rows_with
  rows-count = more-count (rows_with s.rows f.group f.rows) n f.cover

  groups-is : take grown_rows.count grown_rows.groups ≡ take n s.rows.groups ++ map (λ r. f.group) f.rows
  unfolding rows_with
  groups-is = ap (λ i. take i grown_rows.groups) rows-count ∙ ap (take (n + length f.rows)) (more-groups (rows_with s.rows f.group f.rows) n f.cover)
      ∙ column-grown (λ r. f.group) s.rows.groups n f.rows (rw fit.rows.groups fit.rows.room)

  tags-is : take grown_rows.count grown_rows.tags ≡ take n s.rows.tags ++ map (λ r. r.tag) f.rows
  unfolding rows_with
  tags-is = ap (λ i. take i grown_rows.tags) rows-count ∙ ap (take (n + length f.rows)) (more-tags (rows_with s.rows f.group f.rows) n f.cover)
      ∙ column-grown (λ r. r.tag) s.rows.tags n f.rows (rw fit.rows.tags fit.rows.room)

  labels-is : listed (label_at (groups_with s.groups f.group flag least greatest (is_there f.cover)) grown_rows) grown_rows.count
      ≡ listed (label_at s.groups s.rows) n ++ map (label_in (cover_read f.cover)) (up_from 0 (length f.rows))
  labels-is =
      let g = groups_with s.groups f.group flag least greatest (is_there f.cover) in
      ap (listed (label_at g grown_rows)) rows-count
      ∙ labels-grown s.groups g s.rows f.group f.rows fit.known
      (λ k h. covers-stay s.groups f.group flag least greatest (is_there f.cover) fit.table k fit.group h)
      fit.rows.room fit.rows.groups fit.rows.chains fit.rows.seqs f.cover
      (cover-here s.groups f.group flag least greatest (is_there f.cover) fit.table fit.group fit.cover) fit.labels

  facts-is : listed grown_groups (groups_with s.groups f.group flag least greatest (is_there f.cover)).count
      ≡ Held.facts_at f.group (listed (facts_at s.groups) s.groups.count) (record { depth = f.depth; covered = is_there (cover_read f.cover) })
  facts-is = rw (fit.depth, there-read f.cover) (groups-grown s.groups f.group flag least greatest (is_there f.cover) fit.table fit.group)

  roots-is : listed (root_at (roots_with s.roots n f.roots)) (roots_with s.roots n f.roots).count
      ≡ listed (root_at s.roots) s.roots.count ++ shifted (length (take n s.rows.tags)) f.roots
  unfolding roots_with
  roots-is = rw (length-take-le n s.rows.tags (omega (arith, fit.rows.room, fit.rows.tags)))
      (roots-grown s.roots n f.roots fit.roots.rows fit.roots.handles)

  unresolved-is : listed (unresolved_at (unresolved_with s.unresolved f.unresolved)) (unresolved_with s.unresolved f.unresolved).count
      ≡ listed (unresolved_at s.unresolved) s.unresolved.count ++ f.unresolved
  unfolding unresolved_with
  unresolved-is = unresolved-grown s.unresolved f.unresolved fit.unresolved.children fit.unresolved.kinds fit.unresolved.handles

  pub sheet-more : sheet_in (sheet_more s f flag least greatest) ≡ sheet_with (sheet_in s) (source_of kinds f)
  unfolding sheet_in sheet_more sheet_with source_of
  sheet-more = same-sheet
      (ap (λ b. cond b f.first s.start) (empty-listed (facts_at s.groups) s.groups.count))
      (subject-more (eqb s.groups.count 0) s.subject f.subject fit.subject
      ∙ ap (λ b. cond b f.subject (take s.subject.length s.subject.bytes)) (empty-listed (facts_at s.groups) s.groups.count))
      facts-is groups-is tags-is labels-is
      (slots-more n (length f.rows) f.first grown_rows.count s.edges f.forward fit.forward fit.rows.room rows-count)
      unresolved-is roots-is (links-more s.links f.group f.cover fit.links)

-- ── what is held ─────────────────────────────────────────────────────────────────────────────

same-held : {a a' : Sheet.Sheet} {b b' : List Bool} {c c' d d' : List (List ℕ)} {e e' : ℕ} → a ≡ a' → b ≡ b' → c ≡ c' → d ≡ d' → e ≡ e'
    → ◌≡◌ {A = Held.Held} (record { sheet = a; erased = b; reverse = c; inbound = d; ranges = e }) (record { sheet = a'; erased = b'; reverse = c'; inbound = d'; ranges = e' })
same-held p q r s t = rw (p, q, r, s, t)

pub held_more_lem : (h : holds.Held) (f : File) (flag least greatest : ℕ) → HeldFit h f flag least greatest
    → held_in (held_more h f flag least greatest) ≡ held_with (held_in h) (source_of kinds f)
unfolding held_in held_more held_with source_of sheet_more
held_more_lem h f flag least greatest fit =
    let n = h.sheet.rows.count in
    let room = fit.sheet.rows.room in
    let z = rows-count h.sheet f flag least greatest fit.sheet in
    same-held (sheet-more h.sheet f flag least greatest fit.sheet)
    (ap (λ i. map flagged (take i (sets h.erased n (map (λ r. bit r.erased) f.rows)))) z ∙ flags-grown h.erased n f.rows fit.erased)
    (slots-more n (length f.rows) f.first _ h.reverse f.reverse fit.reverse room z)
    (slots-more n (length f.rows) f.first _ h.inbound f.inbound fit.inbound room z)
    (ap (λ i. h.ranges + i) (ranges-read f.cover))
