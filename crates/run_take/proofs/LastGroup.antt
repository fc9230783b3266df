-- What the first file of an archive looks back at: the last group of a sheet.
use Rattle.std.specs.Prelude.{Result}
use mathlib.Core.Path.{◌≡◌, refl, sym}
use mathlib.Core.Bool.{true, false}
use mathlib.Core.List.{List}
use Prim.Native.Nat.{ℕ, ◌+◌, ◌-◌, ◌≤◌, ◌<◌}
use native.Mathlib.Omega.{arith}
use lib.Dec.{leb}
use lib.ListN.{length, take}
use lib.Seq.{length-take-le}
use borrow.Author.Tests.{leb-true}
use Rattle.lists.specs.Lists.{is_empty, up_from}
use Rattle.lists.proofs.Tests.{both}
use Rattle.lists.proofs.Flat.{length-map-up_from, get_or-map-up_from}
use Rattle.columns.specs.Limits.{kinds, max_subject, max_groups, end64}
use Rattle.columns.specs.Answers.{ruling}
use Rattle.archive.specs.File.{File}
use Rattle.archive.specs.Reader.{Parsed, broken, got}
use Rattle.cleaning.specs.Held.{look_back, no_facts}
use Rattle.cleaning.specs.History.{files_in}
use Rattle.cleaning.specs.Taking.{files_rules}
use Rattle.cleaning.proofs.HeldRows.{not-empty}
use Rattle.run_state.specs.declared.Sheet.{Sheet}
use Rattle.run_state.specs.View.{has_cover, listed, facts_at, sheet_in}
use Rattle.run_state.specs.Valid.{counts_ok, sheet_ok}
use Rattle.run_state.proofs.Verdicts.{numbers-kept}
use Rattle.run_state.specs.order.Long.{LongSheet}
use Rattle.run_state.proofs.order.TidySheets.{tags-length}
use Rattle.run_rules.specs.parts.Back.{back_of}
use Rattle.run_rules.specs.declared.parts.heads.Back.{Back}
use Rattle.columns.specs.declared.refusal.Refusal.{Refusal}
use Rattle.run_rules.specs.files.Archive.{rules_of}

-- ── within the limits ────────────────────────────────────────────────────────────────────────

module _ (s : Sheet) (k : sheet_ok s ≡ true) where
  counts-ok : counts_ok s ≡ true
  unfolding sheet_ok
  counts-ok = (both (counts_ok s) _ k).0

  few : (s.subject.length ≤ 255) × (s.groups.count ≤ 16)
  unfolding counts_ok
  few =
      let a = both (leb s.subject.length max_subject) _ counts-ok in
      let b = both (leb s.groups.count max_groups) _ a.1 in
      (leb-true s.subject.length max_subject a.0, leb-true s.groups.count max_groups b.0)

  pub last-there : (s.groups.count ≡ 0 → ⊥) → s.groups.count - 1 < 16
  last-there e = omega (arith, few.1)

  pub end_fits : s.start + s.rows.count < end64
  end_fits = numbers-kept s {a = true} (sym counts-ok) refl

  pub name-few : s.subject.length ≤ 255
  name-few = few.0

module _ (n : ℕ) (name : List ℕ) (h : n ≤ 255) (e : length name ≡ 255) where
  pub name-there : n ≤ length name
  name-there = omega arith

  pub name-count : n ≡ length (take n name)
  name-count = sym (length-take-le n name name-there)

  pub name-short : length (take n name) ≤ 255
  name-short = rw (← name-count) h

-- ── the last group ───────────────────────────────────────────────────────────────────────────

module _ (s : Sheet) (l : LongSheet s) (k : sheet_ok s ≡ true) where
  pub no-groups : s.groups.count ≡ 0
      → back_of (record { known = false; group = 0; end = 0; covered = false }) (take s.subject.length s.subject.bytes) ≡ look_back (sheet_in s)
  unfolding back_of look_back sheet_in is_empty up_from
  no-groups e = rw e

  pub last-group : (s.groups.count ≡ 0 → ⊥)
      → back_of (record { known = true; group = s.groups.count - 1; end = s.start + s.rows.count; covered = has_cover s.groups (s.groups.count - 1) })
      (take s.subject.length s.subject.bytes) ≡ look_back (sheet_in s)
  unfolding back_of look_back sheet_in facts_at
  last-group e =
      let n = s.groups.count in
      let c = length-map-up_from (facts_at s.groups) 0 n in
      let z : 0 + (n - 1) ≡ n - 1 = omega arith in
      rw (not-empty (listed (facts_at s.groups) n) (omega arith), c, get_or-map-up_from (facts_at s.groups) 0 n (n - 1) no_facts (omega arith), z, tags-length s l k)

-- ── the rules of files that look back at it ──────────────────────────────────────────────────

pub looked-back : (s : Sheet) (o : Parsed (List File)) (b : Back) (name : List ℕ) → back_of b name ≡ look_back (sheet_in s) → {r : Result (Unit {0}) Refusal}
    → r ≡ ruling (rules_of (back_of b name) o) → r ≡ ruling (files_rules kinds (look_back (sheet_in s)) (files_in o))
unfolding rules_of files_rules
looked-back s broken b name e v = v
looked-back s (got fs end) b name e v = rw e at v
