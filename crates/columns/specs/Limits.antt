-- Document 01, 41 to 43, 1 and "Edge columns": the limits of a run, a file and a lent slice.
use Rattle.std.specs.Prelude.{ℕ, ◌^◌, ◌*◌, ◌+◌, ◌≤◌, ◌<◌}

-- events, roots, unresolved records, ranges and links of a run or a file (42)
abbrev pub max_records : ℕ
max_records = 1024

-- different group numbers of a run (42)
abbrev pub max_groups : ℕ
max_groups = 16

-- numbers in a column that is lent or answered, deltas of one set in a run, and entries of all new lists (43)
abbrev pub max_numbers : ℕ
max_numbers = 4096

-- bytes of a subject (1)
abbrev pub max_subject : ℕ
max_subject = 255

-- kinds of parents in a run's own files: prev is 0, auth is 1. Definitions and laws over slots take the number of kinds; a run's functions cite
-- them at this one
abbrev pub kinds : ℕ
kinds = 2

-- kinds that an unresolved reference may have, in a file of any number of kinds: prev and auth
abbrev pub reference_kinds : ℕ
reference_kinds = 2

-- the most kinds that columns are read, asked and walked for
abbrev pub max_kinds : ℕ
max_kinds = 3

-- numbers of kinds that are served: prev and auth are among them, and a row's slots are few
pub record Served (K : ℕ) : Type 0 where
  pub some : 0 < K
  pub known : reference_kinds ≤ K
  pub few : K ≤ max_kinds

-- sets of edges: forward is 0, reverse 1, inbound 2
abbrev pub edge_sets : ℕ
edge_sets = 3

-- lengths of lent slices (41)
abbrev pub offsets_room : (K : ℕ) → ℕ
offsets_room K = K * max_records + 1

abbrev pub numbers_room : ℕ
numbers_room = max_numbers

abbrev pub records_room : ℕ
records_room = max_records

-- bytes that the listing program reads (the worked run)
abbrev pub max_listed : ℕ
max_listed = 65536

-- one past the greatest number of 64 bits, and of 32 bits
abbrev pub end64 : ℕ
end64 = 2 ^ 64

abbrev pub end32 : ℕ
end32 = 2 ^ 32
