-- Document 01, the worked run: the listing of a resolved run, out of its columns.
use Rattle.std.specs.Prelude.{◌≡◌, true, List, [], ◌∷◌, ◌++◌, ℕ, Result}
use Rattle.columns.specs.Limits.{kinds}
use Rattle.lists.specs.Text.{text}
use Rattle.cleaning.specs.Archive.{Archive}
use Rattle.cleaning.specs.Cleaning.{reparented}
use Rattle.cleaning.specs.Lines.{decimal, line}
use Rattle.cleaning.specs.Listed.{listed}
use Rattle.cleaning.specs.Step.{printed, list_into}
use Rattle.cleaning.specs.Sheet.{Sheet, summary_of}
use Rattle.cleaning.specs.Held.{Held, archive_held}
use Rattle.run_state.specs.declared.Sheet as sheets
use Rattle.run_state.specs.declared.Held as holds
use Rattle.run_state.specs.Valid.{sheet_ok, held_ok, once_ok}
use Rattle.run_state.specs.order.Ordered.{ordered, filled}
use Rattle.run_write.specs.Answers.{Gives}
use Rattle.columns.specs.declared.refusal.Refusal.{Refusal}
use Rattle.run_list.specs.Rows.{maps_text}

-- columns of a resolved run: what it holds, and the sheet of its survivors
pub record Ready (h : holds.Held) (s : sheets.Sheet) : Type 0 where
  pub held_valid : held_ok h ≡ true
  pub held_order : ordered h.sheet ≡ true
  pub valid : sheet_ok s ≡ true
  pub in_order : ordered s ≡ true
  pub whole : filled s ≡ true
  pub once : once_ok s ≡ true

-- the listing of what a run holds, and of the sheet of its survivors
abbrev pub Lists : Held → Sheet → List ℕ → List ℕ → Result ℕ Refusal → Type 0
Lists h s = Gives printed (λ room. list_into (listed kinds room (archive_held kinds h) (summary_of kinds s)))

-- its text, with these lines for the output files
unfoldable pub text_with : Archive → List ℕ → List ℕ
text_with A lines = maps_text A ++ (lines ++ line (text "reparented") (decimal (reparented A) ∷ []))
