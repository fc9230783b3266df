-- The parts of a sheet's columns and of the arrays prepared for it that are lent, and what is known of them.
use Rattle.std.specs.Prelude.{Result}
use mathlib.Core.Path.{◌≡◌, sym, ◌∙◌}
use mathlib.Core.Bool.{true}
use mathlib.Core.List.{List}
use Prim.Native.Nat.{ℕ, ◌+◌, ◌*◌, ◌≤◌, ◌<◌}
use native.Mathlib.Omega.{arith}
use lib.Dec.{leb}
use lib.ListN.{length, take}
use lib.Seq.{length-take-le}
use borrow.Author.Tests.{leb-true}
use Rattle.lists.proofs.Tests.{both}
use Rattle.columns.specs.Limits.{max_subject, end64}
use Rattle.cleaning.specs.Sections.{Filled}
use Rattle.run_state.specs.declared.Sheet.{Sheet}
use Rattle.run_state.specs.Valid.{counts_ok, sheet_ok}
use Rattle.run_state.specs.View.{sheet_in}
use Rattle.run_state.specs.order.Ordered.{filled}
use Rattle.run_state.specs.order.Long.{LongSheet}
use Rattle.run_state.proofs.Verdicts.{few-numbers}
use Rattle.run_state.proofs.order.TidySheets.{counts, edges-form, filled_sheet}
use Rattle.run_section.specs.declared.prepare.Prepared.{Prepared}
use Rattle.run_section.specs.Tables.{sheet_of}
use Rattle.run_section.specs.Ready.{Ready, Children}
use Rattle.run_section.specs.Covers.{CoversAt}
use Rattle.run_section.specs.Prepared.{LaidBy, PreparedBy, subject_in, offsets_in, targets_in}
use Rattle.run_records.specs.Files.{Stores}
use Rattle.run_records.proofs.LaidStores.{laid-stores}
use Rattle.columns.specs.declared.refusal.Refusal.{Refusal}
use Rattle.run_write.specs.Answers.{Wrote}

-- ── the sheet's columns ──────────────────────────────────────────────────────────────────────

module _ (s : Sheet) (long : LongSheet s) (ok : sheet_ok s ≡ true) where
  name-fits : s.subject.length ≤ 255
  unfolding counts_ok
  name-fits = leb-true s.subject.length max_subject (both (leb s.subject.length max_subject) _ (counts s long ok)).0

  pub name-there : s.subject.length ≤ length s.subject.bytes
  name-there = omega (arith, name-fits, long.subject)

  pub name-count : s.subject.length ≡ length (subject_in s)
  name-count = sym (length-take-le s.subject.length s.subject.bytes name-there)

  pub targets-there : s.edges.count ≤ length s.edges.targets
  targets-there = omega (arith, few-numbers s.rows.count s.edges (edges-form s long ok), long.edges.targets)

  pub targets-count : s.edges.count ≡ length (targets_in s)
  targets-count = sym (length-take-le s.edges.count s.edges.targets targets-there)

-- ── what was prepared ────────────────────────────────────────────────────────────────────────

module _ (s : Sheet) (p : Prepared) (rows unresolved roots links starts kids : List ℕ) (d : LaidBy s rows unresolved roots links starts kids p) where
  rows_few : s.rows.count ≤ 1024
  rows_few = d.ready.few.rows

  pub slots-fit : 2 * s.rows.count < end64
  slots-fit = omega (arith, rows_few)

  pub offsets-fit : 2 * s.rows.count + 1 < end64
  offsets-fit = omega (arith, rows_few)

  pub offsets-there : LongSheet s → 2 * s.rows.count + 1 ≤ length s.edges.offsets
  offsets-there l = omega (arith, rows_few, l.edges.offsets)

  pub offsets-count : LongSheet s → 2 * s.rows.count + 1 ≡ length (offsets_in s)
  offsets-count l = sym (length-take-le (2 * s.rows.count + 1) s.edges.offsets (offsets-there l))

  starts-there : 2 * s.rows.count + 1 ≤ length starts
  starts-there = omega (arith, rows_few, d.long_starts)

  pub starts-count : 2 * s.rows.count + 1 ≡ length (take (2 * s.rows.count + 1) starts)
  starts-count = sym (length-take-le (2 * s.rows.count + 1) starts starts-there)

  kids-there : p.kids ≤ length kids
  kids-there = omega (arith, d.kids_few, d.long_kids)

  pub kids-count : p.kids ≡ length (take p.kids kids)
  kids-count = sym (length-take-le p.kids kids kids-there)

  pub ready : Ready p.counts (subject_in s) s.groups rows unresolved roots links (offsets_in s) (targets_in s)
  ready = rw d.counts_are d.ready

  pub children : Children p.counts (offsets_in s) (targets_in s) (take (2 * s.rows.count + 1) starts) (take p.kids kids)
  children = rw d.counts_are d.children

  pub sheet_is : sheet_of p.counts (subject_in s) s.groups rows unresolved roots links (offsets_in s) (targets_in s) ≡ sheet_in s
  sheet_is = rw d.counts_are d.sheet_is

  pub all-filled : LongSheet s → sheet_ok s ≡ true → filled s ≡ true → Filled (sheet_of p.counts (subject_in s) s.groups rows unresolved roots links (offsets_in s) (targets_in s))
  all-filled l ok f = rw sheet_is (sym (filled_sheet s l ok) ∙ f)

module _ (s : Sheet) (p : Prepared) (rows unresolved roots links starts kids ranges : List ℕ) (d : PreparedBy s rows unresolved roots links starts kids ranges p) where
  pub covers : CoversAt p.counts s.groups rows ranges p.covers
  covers = rw d.tables.counts_are d.covers

  pub stores : Stores p.counts rows unresolved links ranges
  stores = rw d.tables.counts_are (laid-stores s rows unresolved roots links ranges d.tables.laid (omega (arith, d.long_ranges)))

  pub wrote-laid : {was is : List ℕ} {r : Result ℕ Refusal}
      → Wrote (sheet_of p.counts (subject_in s) s.groups rows unresolved roots links (offsets_in s) (targets_in s)) was is r → Wrote (sheet_in s) was is r
  wrote-laid w = rw (sheet_is s p rows unresolved roots links starts kids d.tables) at w
