-- Document 01, the worked run: the lines of a file, said of its parts, and the bytes that they take at most.
use Rattle.std.specs.Prelude.{List, ◌++◌, ℕ, ◌+◌, ◌*◌, ℤ, length}
use Rattle.lists.specs.Text.{text}
use Rattle.columns.specs.Limits.{max_records, max_numbers, max_groups}
use Rattle.columns.specs.EdgeSet.{EdgeSet}
use Rattle.columns.specs.Building.{Built}
use Rattle.cleaning.specs.Lines.{set_lines}
use Rattle.run_text.specs.lines.Parts.{head_text}

-- ── the text ─────────────────────────────────────────────────────────────────────────────────

-- two columns as a set; its lines do not say its count
abbrev pub columns_of : List ℕ → List ℤ → EdgeSet
columns_of offsets deltas = record { count = length deltas; offsets = offsets; deltas = deltas }

unfoldable pub sets_text : Built → List ℕ
sets_text s = set_lines (text "forward") s.forward ++ (set_lines (text "reverse") s.reverse ++ set_lines (text "inbound") s.inbound)

unfoldable pub file_text : ℕ → ℕ → ℕ → Built → List ℕ
file_text group first rows s = head_text group first rows ++ sets_text s

-- ── its size ─────────────────────────────────────────────────────────────────────────────────

-- a set of n offsets and m deltas: a number of 64 bits has at most 20 characters, and a space before it
abbrev pub set_size : ℕ → ℕ → ℕ → ℕ
set_size name n m = 17 + 2 * name + 21 * (n + m)

-- all output files of a run
abbrev pub files_room : ℕ
files_room = 224 * max_groups + 126 * max_records + 21 * (3 * max_numbers)

-- and with them a line for each event, and the last one: 437,792 bytes
abbrev pub listing_room : ℕ
listing_room = 46 * max_records + (files_room + 32)
