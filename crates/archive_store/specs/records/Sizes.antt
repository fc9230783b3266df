-- Document 01, "Archive records", and document 02, L1: how many bytes each record has, by its counts. A record's length, version and kind are 6 bytes.
use Rattle.std.specs.Prelude.{ℕ, ◌+◌, ◌*◌}
use Rattle.archive_store.specs.Lent.{set_size, links_size, cover_size}

abbrev pub head_size : ℕ → ℕ
head_size subject = 6 + (31 + subject)

-- the bodies of three sets, each of offsets and deltas
abbrev pub sets_size : ℕ → ℕ → ℕ → ℕ → ℕ → ℕ → ℕ
sets_size fo fd ro rd io id = set_size fo fd + (set_size ro rd + set_size io id)

abbrev pub rows_size : ℕ → ℕ
rows_size rows = 6 + rows * 9

abbrev pub unresolved_size : ℕ → ℕ
unresolved_size n = 6 + (4 + n * 13)

abbrev pub roots_size : ℕ → ℕ
roots_size n = 6 + (4 + n * 16)

-- the body of a cover: two label columns, ranges, four link columns
abbrev pub cover_body : ℕ → ℕ → ℕ → ℕ → ℕ → ℕ → ℕ → ℕ
cover_body chains seqs ranges a b c d = cover_size chains seqs ranges (links_size a b c d)

-- references of so many rows: a count for each row, and 10 bytes for each reference
abbrev pub references_body : ℕ → ℕ → ℕ
references_body rows references = 4 * rows + 10 * references

abbrev pub references_size : ℕ → ℕ → ℕ
references_size rows references = 6 + references_body rows references
