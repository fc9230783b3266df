-- Document 01, "Archive records": how many bytes a file's first six records have, by its counts.
use Rattle.std.specs.Prelude.{ℕ, ◌+◌, ◌*◌, Bool, true, false}
use Rattle.columns.specs.Limits.{kinds}
use Rattle.archive_store.specs.records.Sizes.{head_size, sets_size, rows_size, unresolved_size, roots_size, cover_body}

-- 2: a set of that many rows has two offsets for each, and one more
abbrev pub offsets_of : ℕ → ℕ
offsets_of rows = kinds * rows + 1

abbrev pub edges_size : ℕ → ℕ → ℕ → ℕ → ℕ
edges_size rows forward reverse inbound = 6 + sets_size (offsets_of rows) forward (offsets_of rows) reverse (offsets_of rows) inbound

-- 6: a label for each row; no record without a cover
unfoldable pub cover_record_size : Bool → ℕ → ℕ → ℕ → ℕ
cover_record_size true rows ranges links = 6 + cover_body rows rows ranges links links links links
cover_record_size false rows ranges links = 0

abbrev pub file_size : ℕ → ℕ → ℕ → ℕ → ℕ → ℕ → ℕ → Bool → ℕ → ℕ → ℕ
file_size subject rows forward reverse inbound unresolved roots covered ranges links =
    head_size subject
    + (edges_size rows forward reverse inbound
    + (rows_size rows + (unresolved_size unresolved + (roots_size roots + cover_record_size covered rows ranges links))))

-- the size of a cover, and of a file, whose every count is at its limit
abbrev pub max_cover_size : ℕ
max_cover_size = 36878

abbrev pub max_file_size : ℕ
max_file_size = 223606

-- the size of a record of references at both limits
abbrev pub max_references_size : ℕ
max_references_size = 45062
