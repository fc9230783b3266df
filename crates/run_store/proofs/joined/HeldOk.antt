-- A valid run with a file more, whose rules are kept, is valid.
use mathlib.Core.Path.{◌≡◌, ◌∙◌, ap}
use mathlib.Core.Bool.{Bool, true, cond, ◌&&◌}
use mathlib.Core.List.{map}
use Prim.Native.Nat.{ℕ, ◌≤◌, ◌<◌, ◌+◌, ◌*◌}
use native.Mathlib.Omega.{arith}
use lib.Dec.{leb, eqb}
use lib.ListN.{length, take}
use lib.Seq.{sets}
use borrow.Author.Tests.{le-leb, lt-ltb, leb-true}
use Rattle.lists.specs.Lists.{all, Each}
use Rattle.lists.proofs.Tests.{both}
use Rattle.lists.proofs.Each.{each_map, each-imp}
use Rattle.lists.proofs.From.{EachFrom}
use Rattle.columns.specs.Limits.{kinds, max_records, max_groups, max_numbers, max_subject, end64}
use Rattle.columns.specs.EdgeSet.{EdgeSet, offsets_form}
use Rattle.columns.specs.Reading.{slots_of}
use Rattle.columns.specs.Building.{in_file}
use Rattle.columns.proofs.Offsets.{cut-length, form-length}
use Rattle.archive.specs.File.{File}
use Rattle.cleaning.specs.Taking.{stored_link_count}
use Rattle.cleaning.specs.Source.{is_there}
use Rattle.cleaning.proofs.Sides.{SlotBelow}
use Rattle.run_state.specs.declared.Edges.{Edges}
use Rattle.run_state.specs.declared.Sheet.{Sheet}
use Rattle.run_state.specs.declared.Held.{Held}
use Rattle.run_state.specs.View.{slots_in}
use Rattle.run_state.specs.Valid.{edges_ok, counts_ok, below, earlier, records_ok, sheet_ok, held_ok}
use Rattle.run_store.specs.parts.Grown.{edges_with, unresolved_with, roots_with}
use Rattle.run_store.specs.joined.Joined.{links_more, sheet_more, held_more}
use Rattle.run_store.proofs.joined.Records.{column-grown}
use Rattle.run_store.proofs.joined.Lists.{edges-grown}
use Rattle.run_store.proofs.joined.Fitting.{SetFit, SheetFit, HeldFit}
use Rattle.run_store.proofs.joined.StaysOk.{subject-length, groups-few, links-count, children-in, roots-below, parents-earlier}
use Rattle.run_store.proofs.joined.Whole.{grown_rows, rows-count, slots-more}

-- what the rules of a file say of it, after the rows that are held
pub record SheetSound (s : Sheet) (f : File) : Type 0 where
  pub first : cond (eqb s.groups.count 0) f.first s.start + s.rows.count ≡ f.first
  pub stays : 0 < s.rows.count → cond (eqb s.groups.count 0) f.first s.start ≡ s.start
  pub end : f.first + length f.rows < end64
  pub subject : length f.subject ≤ 255
  pub group : f.group < 16
  pub unresolved_few : s.unresolved.count + length f.unresolved ≤ 1024
  pub roots_few : s.roots.count + length f.roots ≤ 1024
  pub links_few : s.links.count + stored_link_count f.cover ≤ 1024
  pub children : Each (λ u. (f.first ≤ u.child) × (u.child < f.first + length f.rows)) f.unresolved
  pub roots : Each (λ r. r.row < length f.rows) f.roots
  pub below : EachFrom (SlotBelow kinds f.first) 0 (slots_of kinds f.first f.forward)

yes : {a b : Bool} → a ≡ true → b ≡ true → (a && b) ≡ true
yes e f = rw (e, f)

slots_length : (n : ℕ) (e : Edges) → edges_ok n e ≡ true → length (slots_in n e) ≡ kinds * n
unfolding edges_ok slots_in
slots_length n e h =
    let os = take (kinds * n + 1) e.offsets in
    let l = form-length kinds n e.count os (both (leb e.count max_numbers) (offsets_form kinds n e.count os) h).1 in
    omega (arith, cut-length os (take e.count e.targets), l)

pub edges-ok : (n rows first m : ℕ) (e : Edges) (x : EdgeSet) → SetFit n rows e x → n + rows ≤ 1024 → m ≡ n + rows → edges_ok m (edges_with e n first x) ≡ true
edges-ok n rows first m e x fit room z =
    ap (λ i. edges_ok i (edges_with e n first x)) z ∙ edges-grown n rows first e x fit.held fit.form fit.counted fit.few room fit.long fit.wide

module _ (s : Sheet) (f : File) (flag least greatest : ℕ) (ok : sheet_ok s ≡ true) (fit : SheetFit s f flag least greatest) (sound : SheetSound s f) where
  abbrev n : ℕ
  n = s.rows.count

  abbrev m : ℕ
  m = length f.rows

  abbrev start' : ℕ
  start' = cond (eqb s.groups.count 0) f.first s.start

  count : (grown_rows s f flag least greatest fit).count ≡ n + m
  count = rows-count s f flag least greatest fit

  parts : (counts_ok s ≡ true) × (edges_ok n s.edges ≡ true) × (records_ok s ≡ true) × (earlier s.start 0 (slots_in n s.edges) ≡ true)
  unfolding sheet_ok
  parts =
      let a = both (counts_ok s) _ ok in
      let b = both (edges_ok n s.edges) _ a.1 in
      let c = both (records_ok s) _ b.1 in
      (a.0, b.0, c.0, c.1)

  subject-short : s.subject.length ≤ 255
  unfolding counts_ok
  subject-short = leb-true s.subject.length max_subject (both (leb s.subject.length max_subject) _ parts.0).0

  counts-more : counts_ok (sheet_more s f flag least greatest) ≡ true
  unfolding counts_ok sheet_more unresolved_with roots_with
  counts-more =
      let rows : (grown_rows s f flag least greatest fit).count ≤ 1024 = rw count fit.rows.room in
      let links : (links_more s.links f.group f.cover).count ≤ 1024 = rw (links-count s.links f.group f.cover) sound.links_few in
      let end : start' + (grown_rows s f flag least greatest fit).count < end64 = rw count (omega (arith, sound.first, sound.end)) in
      yes (le-leb _ max_subject (subject-length (eqb s.groups.count 0) s.subject f.subject subject-short sound.subject))
      (yes (le-leb _ max_groups (groups-few s.groups f.group flag least greatest (is_there f.cover) fit.group sound.group))
      (yes (le-leb _ max_records rows) (yes (le-leb _ max_records sound.unresolved_few) (yes (le-leb _ max_records sound.roots_few)
      (yes (le-leb _ max_records links) (lt-ltb _ end64 end))))))

  records-more : records_ok (sheet_more s f flag least greatest) ≡ true
  unfolding records_ok sheet_more unresolved_with roots_with
  records-more =
      let old = both (all (in_file s.start (s.start + n)) (take s.unresolved.count s.unresolved.children)) _ parts.2 in
      let cs = column-grown (λ u. u.child) s.unresolved.children s.unresolved.count f.unresolved fit.unresolved.children in
      let rs = column-grown (λ r. n + r.row) s.roots.rows s.roots.count f.roots fit.roots.rows in
      let children : all (in_file start' (start' + (grown_rows s f flag least greatest fit).count))
      (take (s.unresolved.count + length f.unresolved) (sets s.unresolved.children s.unresolved.count (map (λ u. u.child) f.unresolved))) ≡ true =
      rw (count, cs) (children-in s.start start' n m f.first (take s.unresolved.count s.unresolved.children) (map (λ u. u.child) f.unresolved)
      sound.first sound.stays old.0 (each_map (λ y. (f.first ≤ y) × (y < f.first + m)) (λ u. u.child) f.unresolved sound.children)) in
      let roots : all (below (grown_rows s f flag least greatest fit).count)
      (take (s.roots.count + length f.roots) (sets s.roots.rows s.roots.count (map (λ r. n + r.row) f.roots))) ≡ true =
      rw (count, rs) (roots-below n m (take s.roots.count s.roots.rows) (map (λ r. n + r.row) f.roots) old.1
      (each_map (λ y. y < n + m) (λ r. n + r.row) f.roots (each-imp (λ r. r.row < m) (λ r. n + r.row < n + m) f.roots (λ r t. omega arith) sound.roots))) in
      yes children roots

  parents-more : earlier start' 0 (slots_in (grown_rows s f flag least greatest fit).count (edges_with s.edges n f.first f.forward)) ≡ true
  parents-more =
      rw (slots-more n m f.first (grown_rows s f flag least greatest fit).count s.edges f.forward fit.forward fit.rows.room count)
      (parents-earlier s.start start' n f.first (slots_in n s.edges) (slots_of kinds f.first f.forward) sound.first sound.stays
      (slots_length n s.edges parts.1) parts.3 sound.below)

  pub sheet-stays-ok : sheet_ok (sheet_more s f flag least greatest) ≡ true
  unfolding sheet_ok sheet_more
  sheet-stays-ok = yes counts-more (yes (edges-ok n m f.first _ s.edges f.forward fit.forward fit.rows.room count) (yes records-more parents-more))

pub held-stays-ok : (h : Held) (f : File) (flag least greatest : ℕ) → held_ok h ≡ true → HeldFit h f flag least greatest → SheetSound h.sheet f
    → held_ok (held_more h f flag least greatest) ≡ true
unfolding held_ok held_more sheet_more
held-stays-ok h f flag least greatest ok fit sound =
    let s = h.sheet in
    let z = rows-count s f flag least greatest fit.sheet in
    yes (sheet-stays-ok s f flag least greatest (both (sheet_ok s) _ ok).0 fit.sheet sound)
    (yes (edges-ok s.rows.count (length f.rows) f.first _ h.reverse f.reverse fit.reverse fit.sheet.rows.room z)
    (edges-ok s.rows.count (length f.rows) f.first _ h.inbound f.inbound fit.inbound fit.sheet.rows.room z))
