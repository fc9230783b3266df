-- The covers of groups out of tables are those of the sections of their sheet.
use mathlib.Core.Path.{◌≡◌, refl, ap, ◌∙◌}
use mathlib.Core.Bool.{true, false, cond}
use mathlib.Core.Logic.{inl, inr}
use mathlib.Core.List.{List, [], ◌∷◌}
use Prim.Native.Nat.{ℕ, zero, suc, ◌+◌, ◌*◌, ◌≤◌, ◌<◌}
use native.Mathlib.Omega.{arith}
use lib.ListN.{get_or, drop}
use lib.Seq.{get_or-drop}
use Rattle.lists.specs.Lists.{flat}
use Rattle.lists.proofs.Tests.{tested}
use Rattle.columns.specs.Reading.{Label}
use Rattle.columns.specs.Building.{seqs_rise}
use Rattle.cover.specs.Chains.{ranges_of}
use Rattle.archive_bytes.specs.Bytes.{several}
use Rattle.cleaning.specs.Sheet.{Sheet}
use Rattle.cleaning.specs.Writing.{label_list}
use Rattle.cleaning.specs.Sections.{section_start, section_rows, section_labels}
use Rattle.cleaning.proofs.Places.{place-rises}
use Rattle.run_state.specs.declared.Groups.{Groups}
use Rattle.run_state.specs.View.{has_cover}
use Rattle.run_section.specs.declared.Counts.{Counts}
use Rattle.run_section.specs.Sections.{SortedTable}
use Rattle.run_section.specs.Tables.{keys, label_in, sheet_of}
use Rattle.run_section.specs.Covers.{label_here, labels_from, start_at, rows_at, labels_at, ranges_at, rises_at}
use Rattle.run_section.proofs.Records.{several-from}
use Rattle.run_section.proofs.Placing.{key_here, at_most}

-- ── the labels of rows of one group ──────────────────────────────────────────────────────────

module _ (groups : Groups) (g : ℕ) where
  next_keys : (n : ℕ) (t : List ℕ) → ((i : ℕ) → i < suc n → get_or t (i * 4) 0 ≡ g) → (i : ℕ) → i < n → get_or (drop 4 t) (i * 4) 0 ≡ g
  next_keys n t h i l = get_or-drop 4 t (i * 4) 0 ∙ ap (λ j. get_or t j 0) (omega arith) ∙ h (suc i) (omega arith)

  all-labels : has_cover groups g ≡ true → (n : ℕ) (t : List ℕ) → ((i : ℕ) → i < n → get_or t (i * 4) 0 ≡ g)
      → flat label_list (several 4 (label_in groups) n t) ≡ several 4 label_here n t
  unfolding several
  all-labels e zero t h = refl
  all-labels e (suc n) t h = rw (h 0 (omega arith), e) (ap (λ (ls : List Label). label_here t ∷ ls) (all-labels e n (drop 4 t) (next_keys n t h)))

  no-labels : has_cover groups g ≡ false → (n : ℕ) (t : List ℕ) → ((i : ℕ) → i < n → get_or t (i * 4) 0 ≡ g)
      → flat label_list (several 4 (label_in groups) n t) ≡ []
  unfolding several
  no-labels e zero t h = refl
  no-labels e (suc n) t h = rw (h 0 (omega arith), e) (no-labels e n (drop 4 t) (next_keys n t h))

-- ── a section ────────────────────────────────────────────────────────────────────────────────

module _ (z : Counts) (subject : List ℕ) (groups : Groups) (rows unresolved roots links offsets targets : List ℕ) (t : SortedTable 4 z.rows rows) (g : ℕ) where
  abbrev sheet : Sheet
  sheet = sheet_of z subject groups rows unresolved roots links offsets targets

  rises : start_at z rows g ≤ start_at z rows (suc g)
  rises = place-rises g (suc g) (keys 4 z.rows rows) (omega arith)

  keys-here : (i : ℕ) → i < rows_at z rows g → get_or (drop (start_at z rows g * 4) rows) (i * 4) 0 ≡ g
  keys-here i l =
      get_or-drop (start_at z rows g * 4) rows (i * 4) 0 ∙ ap (λ j. get_or rows j 0) (omega arith)
      ∙ key_here 4 z.rows g (start_at z rows g + i) rows t (omega arith) (omega (arith, rises))

  labels-cut : section_labels sheet g ≡ flat label_list (several 4 (label_in groups) (rows_at z rows g) (drop (start_at z rows g * 4) rows))
  unfolding sheet_of section_start section_rows
  labels-cut = ap (flat label_list) (several-from 4 (label_in groups) z.rows (start_at z rows g) (rows_at z rows g) rows (omega (arith, rises, at_most 4 z.rows (suc g) rows)))

  -- one label for each row where the group has a cover, and else none
  pub labels-section : section_labels sheet g ≡ cond (has_cover groups g) (labels_at z rows g) []
  unfolding labels_at labels_from
  labels-section = elim (tested (has_cover groups g)) [
    | inl e ↦ labels-cut ∙ all-labels groups g e (rows_at z rows g) (drop (start_at z rows g * 4) rows) keys-here ∙ rw e
    | inr e ↦ labels-cut ∙ no-labels groups g e (rows_at z rows g) (drop (start_at z rows g * 4) rows) keys-here ∙ rw e
  ]

  pub rises-section : seqs_rise [] (section_labels sheet g) ≡ rises_at z groups rows g
  unfolding rises_at seqs_rise
  rises-section = ap (seqs_rise []) labels-section ∙ elim (tested (has_cover groups g)) [ inl e ↦ rw e | inr e ↦ rw e ]

  pub ranges-section : ranges_of (section_labels sheet g) ≡ ranges_at z groups rows g
  unfolding ranges_at ranges_of
  ranges-section = ap ranges_of labels-section ∙ elim (tested (has_cover groups g)) [ inl e ↦ rw e | inr e ↦ rw e ]
