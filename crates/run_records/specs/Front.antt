-- Document 01, "Archive records": the sets of a section, the bytes of three sets, and how many they are.
use Rattle.std.specs.Prelude.{List, ℕ, ◌+◌}
use Rattle.columns.specs.Limits.{kinds}
use Rattle.columns.specs.EdgeSet.{EdgeSet, set_of}
use Rattle.columns.specs.Building.{Built, rows_within}
use Rattle.archive.specs.Encode.{sets_bytes}
use Rattle.archive_store.specs.records.Sizes.{sets_size}
use Rattle.archive_store.specs.sizes.FileSize.{offsets_of}
use Rattle.run_section.specs.declared.Counts.{Counts}
use Rattle.run_section.specs.declared.Section.{Section}
use Rattle.run_section.specs.declared.sizes.Edges.{Edges}
use Rattle.run_section.specs.Files.{many}

-- the set of a section's rows: the numbers of their lists from low up to high
abbrev pub set_in : Counts → Section → ℕ → ℕ → List ℕ → List ℕ → EdgeSet
set_in z s low high offsets targets = set_of kinds (z.start + s.rows.from) (rows_within kinds low high s.rows.from (many s.rows) offsets targets)

-- forward, reverse, inbound
abbrev pub built_bytes : Built → List ℕ
built_bytes b = sets_bytes b.forward b.reverse b.inbound

-- how many they are, of n rows
abbrev pub edges_body : ℕ → Edges → ℕ
edges_body n e = sets_size (offsets_of n) e.forward (offsets_of n) e.reverse (offsets_of n) e.inbound
