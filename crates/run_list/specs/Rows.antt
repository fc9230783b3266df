-- Document 01, the worked run: a line for each event, out of an archive and out of columns.
use Rattle.std.specs.Prelude.{List, ℕ, ◌+◌, length, get_or}
use Rattle.lists.specs.Lists.{flat, up_from}
use Rattle.cleaning.specs.Archive.{Archive}
use Rattle.cleaning.specs.Lines.{map_line}
use Rattle.run_state.specs.View.{flagged}
use Rattle.run_text.specs.lines.Parts.{map_text}

-- the first part of `listingText`
unfoldable pub maps_text : Archive → List ℕ
maps_text A = flat (map_line A) (up_from A.start (length A.events))

-- the line of the i-th row
abbrev pub row_text : ℕ → List ℕ → List ℕ → ℕ → List ℕ
row_text start flags numbers i = map_text (start + i) (flagged (get_or flags i 0)) (get_or numbers i 0)

unfoldable pub rows_text : ℕ → List ℕ → List ℕ → List ℕ
rows_text start flags numbers = flat (row_text start flags numbers) (up_from 0 (length flags))
