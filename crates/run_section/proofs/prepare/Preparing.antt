-- Survivors that pass the tests of a run: their tables and lists are ready to be written.
use mathlib.Core.Path.{◌≡◌, refl, sym}
use mathlib.Core.Bool.{true, not, false≢true}
use mathlib.Core.List.{List}
use mathlib.Core.Option.{Option, none, some}
use Prim.Native.Nat.{ℕ, ◌+◌, ◌^◌, ◌≤◌, ◌<◌}
use native.Mathlib.Omega.{arith}
use lib.Dec.{leb}
use lib.ListN.{length, length-take}
use borrow.Author.Tests.{leb-true}
use Rattle.lists.proofs.Tests.{both}
use Rattle.lists.proofs.Each.{each-get_or}
use Rattle.columns.specs.Limits.{kinds, max_groups, max_subject, end64}
use Rattle.columns.specs.Building.{slot_rules}
use Rattle.archive_bytes.specs.Bytes.{several}
use Rattle.archive.proofs.Back.{length-several}
use Rattle.cleaning.specs.Source.{is_there}
use Rattle.run_state.specs.declared.Sheet.{Sheet}
use Rattle.run_state.specs.View.{slots_in}
use Rattle.run_state.specs.Valid.{counts_ok, sheet_ok, once_ok}
use Rattle.run_state.specs.order.Ordered.{ordered}
use Rattle.run_state.specs.order.Long.{LongSheet}
use Rattle.run_state.proofs.Verdicts.{numbers-kept}
use Rattle.run_state.proofs.order.Turns as limits
use Rattle.run_state.proofs.order.TidySheets.{edges-form, tidy-sheet}
use Rattle.run_section.specs.declared.Counts.{Counts}
use Rattle.run_section.specs.declared.covers.Covers.{Covers}
use Rattle.run_section.specs.Tables.{field}
use Rattle.run_section.specs.Sections.{SortedTable}
use Rattle.run_section.specs.Laid.{Column, SheetLaid, counts_of}
use Rattle.run_section.specs.Ready.{Few}
use Rattle.run_section.specs.Covers.{Narrow, Labelled, CoversAt}
use Rattle.run_section.specs.Prepared.{targets_in, subject_in, PreparedBy, Turnable, TablesReady, ChildrenPut}
use Rattle.run_section.proofs.Laying.{field_at}
use Rattle.run_section.proofs.LaidSheets.{laid-sheet, laid-sorted}
use Rattle.run_section.proofs.prepare.Turning.{targets-few, lists-form}

-- ── counts ───────────────────────────────────────────────────────────────────────────────────

module _ (s : Sheet) (k : sheet_ok s ≡ true) where
  counted : counts_ok s ≡ true
  unfolding sheet_ok
  counted = (both (counts_ok s) _ k).0

  pub rows_fit : s.rows.count ≤ 1024
  rows_fit = limits.rows_few s counted

  pub unresolved-fit : s.unresolved.count ≤ 1024
  unresolved-fit = limits.children-few s counted

  pub roots-fit : s.roots.count ≤ 1024
  roots-fit = limits.roots_few s counted

  pub links-fit : s.links.count ≤ 1024
  links-fit = limits.links_few s counted

  subject-fits : s.subject.length ≤ 255
  unfolding counts_ok
  subject-fits = leb-true s.subject.length max_subject (both (leb s.subject.length max_subject) _ counted).0

  groups-fit : s.groups.count ≤ 16
  unfolding counts_ok
  groups-fit = leb-true s.groups.count max_groups (both (leb s.groups.count max_groups) _ (both (leb s.subject.length max_subject) _ counted).1).0

  numbers-end : s.start + s.rows.count < end64
  numbers-end = numbers-kept s (sym counted) refl

-- ── lists ────────────────────────────────────────────────────────────────────────────────────

none-there : {A : Type 0} (o : Option A) → not (is_there o) ≡ true → o ≡ none
none-there none h = refl
none-there (some x) h = absurd (false≢true h)

lists-once : (s : Sheet) → once_ok s ≡ true → slot_rules kinds s.start 0 (slots_in s.rows.count s.edges) ≡ none
unfolding once_ok
lists-once s w = none-there (slot_rules kinds s.start 0 (slots_in s.rows.count s.edges)) w

-- ── tables ───────────────────────────────────────────────────────────────────────────────────

narrow : {k n : ℕ} {column t : List ℕ} → Column 4 k n (2 ^ 32) column t → Narrow k n t
narrow {k} {n} {t = t} c = record {
  small = λ i h. rw (field_at 4 k n i t h) at (each-get_or (λ x. x < 2 ^ 32) (several 4 (field k) n t) i 0 c.narrow (omega (arith, length-several 4 (field k) n t)));
}

module _ (s : Sheet) (l : LongSheet s) (k : sheet_ok s ≡ true) (w : once_ok s ≡ true) where
  turnable : Turnable (counts_of s) s.edges
  turnable = record { rows_few = rows_fit s k; end = numbers-end s k; in_form = edges-form s l k; once = lists-once s w }

  few : Few (counts_of s) (subject_in s) s.groups (targets_in s)
  few = record {
    rows = rows_fit s k;
    unresolved = unresolved-fit s k;
    roots = roots-fit s k;
    links = links-fit s k;
    parents = targets-few (counts_of s) s.edges turnable l.edges.targets;
    groups_count = groups-fit s k;
    short = omega (arith, subject-fits s k, length-take s.subject.length s.subject.bytes);
    end = numbers-end s k;
  }

  pub tables-ready : {rows unresolved roots links : List ℕ} → ordered s ≡ true → SheetLaid s rows unresolved roots links → TablesReady s rows unresolved roots links
  unfolding slots_in
  tables-ready o t = record {
    laid = t;
    ready = record {
      few = few;
      sorted = laid-sorted s t k o;
      form = lists-form (counts_of s) s.edges turnable l.edges.targets;
      once = lists-once s w;
      tidy = rw (laid-sheet s t) (tidy-sheet s l k o);
    };
    labelled = record { chains = narrow t.rows_laid.chain; seqs = narrow t.rows_laid.seq };
    turnable = turnable;
  }

-- ── all of it ────────────────────────────────────────────────────────────────────────────────

module _ (s : Sheet) (rows unresolved roots links : List ℕ) (t : TablesReady s rows unresolved roots links) (z : Counts) (y : z ≡ counts_of s) where
  pub rows_few : z.rows ≤ 1024
  rows_few = rw y t.ready.few.rows

  pub groups-few : s.groups.count ≤ 16
  groups-few = t.ready.few.groups_count

  pub rows-sorted : SortedTable 4 z.rows rows
  rows-sorted = rw y t.ready.sorted.by_group

  pub rows-labelled : Labelled z.rows rows
  rows-labelled = rw y t.labelled

  pub lists-turnable : Turnable z s.edges
  lists-turnable = rw y t.turnable

  pub prepared : {starts kids ranges : List ℕ} {n : ℕ} {c : Covers} → ChildrenPut z s.edges starts kids n → CoversAt z s.groups rows ranges c → length ranges ≡ 3072
      → PreparedBy s rows unresolved roots links starts kids ranges (record { counts = z; covers = c; kids = n })
  prepared p q r =
      let d = rw y at p in
      record {
        tables = record {
          counts_are = y;
          laid = t.laid;
          sheet_is = laid-sheet s t.laid;
          ready = t.ready;
          children = d.children;
          kids_few = d.few;
          long_starts = d.long_starts;
          long_kids = d.long_kids;
        };
        covers = rw y at q;
        long_ranges = r;
      }
