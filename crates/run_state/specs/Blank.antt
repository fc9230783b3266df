-- What a run holds that has taken nothing, column by column: every count and every entry is 0.
use Rattle.std.specs.Prelude.{List, ℕ, replicate}
use Rattle.columns.specs.Limits.{kinds, max_records, max_groups, max_subject, offsets_room, numbers_room}
use Rattle.run_state.specs.declared.Edges.{Edges}
use Rattle.run_state.specs.declared.Ends.{Ends}
use Rattle.run_state.specs.declared.Held.{Held}

abbrev pub zeros : ℕ → List ℕ
zeros n = replicate n 0

-- lists of no rows
abbrev pub no_edges : Edges
no_edges = record { count = 0; offsets = zeros (offsets_room kinds); targets = zeros numbers_room }

-- one side of no links
abbrev pub no_ends : Ends
no_ends = record { chains = zeros max_records; seqs = zeros max_records }

unfoldable pub blank : Held
blank = record {
  sheet = record {
    start = 0;
    subject = record { length = 0; bytes = zeros max_subject };
    groups = record { count = 0; known = zeros max_groups; least = zeros max_groups; greatest = zeros max_groups; covered = zeros max_groups };
    rows = record { count = 0; groups = zeros max_records; tags = zeros max_records; chains = zeros max_records; seqs = zeros max_records };
    edges = no_edges;
    unresolved = record { count = 0; children = zeros max_records; kinds = zeros max_records; handles = zeros max_records };
    roots = record { count = 0; rows = zeros max_records; handles = zeros max_records };
    links = record { count = 0; groups = zeros max_records; from = no_ends; to = no_ends };
  };
  erased = zeros max_records;
  reverse = no_edges;
  inbound = no_edges;
  ranges = 0;
}
